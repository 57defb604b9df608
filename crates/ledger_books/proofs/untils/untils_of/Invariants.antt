use Rattle.std.proofs.Common.{◌≤◌, length}
use Rattle.ledger_books.specs.Untils.{WalksBack}
use Rattle.ledger_books.proofs.untils.untils_of.Given as goal

abbrev pub invariant-loop-n : goal.invariant-loop-n
invariant-loop-n l = record {
  within : l.n ≤ length l.events;
  walks : WalksBack l.latest l.rows l.firsts l.events l.n;
}

abbrev pub decreases-loop-n : goal.decreases-loop-n
decreases-loop-n l = l.n
