use Rattle.std.proofs.Common.{◌≡◌, ◌<◌, ◌^◌, ◌++◌, length}
use Rattle.std.specs.List.{flat_map, AllByRecursion}
use Rattle.res_ledger.specs.Texts.{event_line}
use Rattle.res_ledger.specs.Ledger.{IsStamped}
use Rattle.res_ledger.specs.Limits.{IsSmallEvent}
use Rattle.ledger_text.specs.Reading.{head_line}
use Rattle.ledger_text.proofs.reading.read.Given as goal

-- the head and the lines of the events so far stand before the rest
abbrev pub invariant-loop-rest : goal.invariant-loop-rest
invariant-loop-rest l = record {
  before : l.bytes ≡ head_line l.said ++ (flat_map event_line l.events.items ++ l.rest);
  said_fits : l.said < 2 ^ 64;
  small : AllByRecursion IsSmallEvent l.events.items;
  stamped : IsStamped l.events.items;
}

abbrev pub decreases-loop-rest : goal.decreases-loop-rest
decreases-loop-rest l = length l.rest
