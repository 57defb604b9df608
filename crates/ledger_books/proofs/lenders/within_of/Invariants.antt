use Rattle.std.proofs.Common.{◌≤◌, length}
use Rattle.ledger_books.proofs.lenders.within_of.Given as goal

abbrev pub invariant-loop-n : goal.invariant-loop-n
invariant-loop-n l = l.n ≤ length l.events

abbrev pub decreases-loop-n : goal.decreases-loop-n
decreases-loop-n l = l.n
