use Rattle.std.proofs.Common.{take}
use Rattle.ledger_books.specs.Ends.{IsFirsts}
use Rattle.ledger_books.proofs.ends.firsts_of.Given as goal

abbrev pub invariant-loop-i : goal.invariant-loop-i
invariant-loop-i l = IsFirsts l.firsts (take l.i l.events)
