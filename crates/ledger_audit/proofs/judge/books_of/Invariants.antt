use Rattle.std.proofs.Common.{take}
use Rattle.res_ledger.specs.Ledger.{IsLegal}
use Rattle.ledger_books.specs.Kept.{Follows}
use Rattle.ledger_audit.proofs.judge.books_of.Given as goal

abbrev pub invariant-loop-i : goal.invariant-loop-i
invariant-loop-i l = record {
  follows : Follows l.books l.events (take l.i l.events);
  legal : IsLegal l.events;
}
