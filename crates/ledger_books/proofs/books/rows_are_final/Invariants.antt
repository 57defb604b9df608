use Rattle.std.proofs.Common.{◌≤◌, length}
use Rattle.res_ledger.specs.declared.event.StreamNo.TheVariants.{Inner}
use Rattle.ledger_books.specs.Kept.{Keeps}
use Rattle.ledger_books.proofs.Walking.{Ended}
use Rattle.ledger_books.proofs.books.rows_are_final.Given as goal

abbrev pub invariant-loop-n : goal.invariant-loop-n
invariant-loop-n l = record {
  keeps : Keeps l.books l.past;
  within : l.n ≤ length l.books.rows.items;
  ended : Ended l.past l.books.rows.items (Inner l.stream) l.n;
}

abbrev pub decreases-loop-n : goal.decreases-loop-n
decreases-loop-n l = l.n
