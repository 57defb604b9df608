use Rattle.std.proofs.Common.{◌<◌, ◌^◌, ◌++◌, decimal, sym, subst, codes}
use Rattle.ledger_text.specs.Reading.{IsReadAs}
use Rattle.ledger_text.proofs.Spelled.{back_none, number_has_no_space}
use Rattle.ledger_text.proofs.spelling.two_numbers.Goals as goal

pub returns-in_err-short_number : goal.returns-in_err-short_number
returns-in_err-short_number c =
    let front = c.in_ok-first.ensures in
    subst (λ o. IsReadAs (λ p. (p.0 < 2 ^ 32) × (p.1 < 2 ^ 32)) (λ p. decimal p.0 ++ codes " " ++ decimal p.1) c.args.text.now o) (sym c.from_residual-in_err-short_number.ensures)
    (λ p small. back_none 32 (λ n. n < 2 ^ 32) decimal number_has_no_space (λ n. n < 2 ^ 32) decimal c.args.text.now _ _ front.0 front.1 c.in_err-short_number.ensures p.0 p.1 small.0 small.1)
