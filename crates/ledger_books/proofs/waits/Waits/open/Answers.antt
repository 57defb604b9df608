use Rattle.std.proofs.Common.{refl}
use Rattle.std.proofs.lemmas.Bool.{false≢true}
use Rattle.ledger_books.proofs.waits.Waits.open.Goals as goal

pub returns-then-is_within : goal.returns-then-is_within
returns-then-is_within c = λ h. (refl, c.is_within.ensures c.if-is_within.true)

pub returns : goal.returns
returns c = λ h. absurd (false≢true h)
