use Rattle.std.proofs.Common.{take}
use Rattle.std.specs.List.{AllByRecursion}
use Rattle.res_ledger.specs.Limits.{IsSmallEvent}
use Rattle.res_ledger.proofs.ledger.Ledger.of_events.Given as goal

-- the numbers of the events so far fit
abbrev pub invariant-loop-event : goal.invariant-loop-event
invariant-loop-event l = AllByRecursion IsSmallEvent (take l.event-index l.event-items)
