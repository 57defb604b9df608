use Rattle.std.proofs.Common.{◌<◌, ◌^◌, ◌++◌, decimal, sym, subst, codes}
use Rattle.ledger_text.specs.Reading.{IsReadInFront}
use Rattle.ledger_text.proofs.Spelled.{front_none, number_has_no_space}
use Rattle.ledger_text.proofs.spelling.number_in_front.Goals as goal

pub returns-in_err-short_number : goal.returns-in_err-short_number
returns-in_err-short_number c =
    let cut = c.in_ok-digits.ensures in
    subst (λ o. IsReadInFront (λ n. n < 2 ^ 32) (λ n. decimal n ++ codes " ") c.args.text.now o) (sym c.from_residual-in_err-short_number.ensures)
    (front_none 32 (λ n. n < 2 ^ 32) decimal number_has_no_space c.args.text.now _ _ cut.0 cut.1 c.in_err-short_number.ensures)
