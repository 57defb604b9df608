use Rattle.ledger_books.proofs.Seating.{seated_none}
use Rattle.ledger_books.proofs.waits.Waits.of.Goals as goal

pub returns : goal.returns
returns c = λ h. seated_none _ c.in_ok-new.ensures c.new-2.ensures
