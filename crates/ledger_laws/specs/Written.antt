-- Ledgers that are written out.
use Rattle.std.specs.Prelude.{List}
use Rattle.res_ledger.specs.declared.event.StreamNo.{StreamNo}
use Rattle.res_ledger.specs.declared.event.What.{What}
use Rattle.res_ledger.specs.declared.event.Event.{Event}
use Rattle.res_ledger.specs.Ledger.{IsLegal, stamped}
use Rattle.res_ledger.specs.Order.{IsOrdered}
use Rattle.res_ledger.specs.Whole.{IsComplete}

-- the ledger that notes these events
abbrev pub ledger_of : List (StreamNo × What) → List Event
ledger_of xs = stamped 0 xs

-- the ledger of a run that went right
abbrev pub IsRight : List Event → Type 0
IsRight L = IsLegal L × IsComplete L × IsOrdered L

-- what is wrong with the ledger is that something is left over
abbrev pub IsOnlyIncomplete : List Event → Type 0
IsOnlyIncomplete L = IsLegal L × ¬ (IsComplete L)

-- what is wrong with the ledger is the order of its Finals
abbrev pub IsOnlyDisordered : List Event → Type 0
IsOnlyDisordered L = IsLegal L × IsComplete L × ¬ (IsOrdered L)
