use Rattle.std.proofs.Common.{◌≤◌, length}
use Rattle.res_ledger.specs.declared.event.What.TheVariants.{Acquire}
use Rattle.res_ledger.specs.Ledger.{IsLegal}
use Rattle.ledger_books.specs.Keyed.{NotesAt}
use Rattle.ledger_books.specs.Kept.{Keeps}
use Rattle.ledger_books.proofs.Walking.{Found}
use Rattle.ledger_books.proofs.books.covering.Given as goal

abbrev pub invariant-loop-n : goal.invariant-loop-n
invariant-loop-n l = record {
  keeps : Keeps l.books l.past;
  legal : IsLegal l.past;
  row : NotesAt l.past l.at l.owner (Acquire l.row l.of);
  within : l.n ≤ length l.books.leases.items;
  found : Found l.past l.books.leases.items l.row l.n l.found.items;
}

abbrev pub decreases-loop-n : goal.decreases-loop-n
decreases-loop-n l = l.n
