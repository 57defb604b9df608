use Rattle.std.proofs.Common.{◌<◌, ◌^◌, decimal, sym, subst}
use Rattle.ledger_text.specs.Reading.{IsReadAs}
use Rattle.ledger_text.proofs.Words.{narrowed}
use Rattle.ledger_text.proofs.spelling.short_number.Goals as goal

pub returns : goal.returns
returns c =
    let read = c.in_ok-number.ensures in
    subst (λ o. IsReadAs (λ n. n < 2 ^ 32) decimal c.args.digits.now o) (sym c.ok.ensures.value)
    (narrowed c.args.digits.now c.in_ok-number.field-0 c.try_from.result read.0 read.1 c.try_from.ensures)
