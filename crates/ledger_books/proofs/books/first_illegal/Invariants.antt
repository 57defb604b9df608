use Rattle.std.proofs.Common.{take}
use Rattle.res_ledger.specs.Ledger.{IsLegal}
use Rattle.ledger_books.specs.Kept.{Follows}
use Rattle.ledger_books.proofs.books.first_illegal.Given as goal

abbrev pub invariant-loop-i : goal.invariant-loop-i
invariant-loop-i l = record {
  keeps : Follows l.books l.events (take l.i l.events);
  legal : IsLegal (take l.i l.events);
}
