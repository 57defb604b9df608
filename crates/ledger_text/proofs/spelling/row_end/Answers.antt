use Rattle.std.proofs.Common.{◌<◌, ◌^◌, ◌++◌, decimal, codes, sym, subst}
use Rattle.ledger_text.specs.Reading.{IsReadAs}
use Rattle.ledger_text.proofs.Spelled.{back_none, number_has_no_space, end_text}
use Rattle.ledger_text.proofs.spelling.row_end.Goals as goal

pub returns-in_err-exit : goal.returns-in_err-exit
returns-in_err-exit c =
    let front = c.in_ok-row.ensures in
    subst (λ o. IsReadAs (λ p. p.0 < 2 ^ 32) (λ p. decimal p.0 ++ codes " " ++ end_text p.1 p.2) c.args.text.now o) (sym c.from_residual-in_err-exit.ensures)
    (λ p small. back_none 32 (λ n. n < 2 ^ 32) decimal number_has_no_space (λ x. Unit {0}) (λ x. end_text x.0 x.1) c.args.text.now _ _ front.0 front.1 c.in_err-exit.ensures p.0 (p.1, p.2) small tt)
