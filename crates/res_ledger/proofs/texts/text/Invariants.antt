use Rattle.std.proofs.Common.{◌≡◌, ◌++◌, string_bytes, take}
use Rattle.std.specs.List.{flat_map}
use Rattle.res_ledger.specs.Texts.{event_line}
use Rattle.res_ledger.proofs.texts.text.Given as goal

-- the head and the lines of the events so far
abbrev pub invariant-loop-event : goal.invariant-loop-event
invariant-loop-event l = string_bytes l.text ≡ string_bytes l.initial.text ++ flat_map event_line (take l.event-index l.event-items)
