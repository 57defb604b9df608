use Rattle.std.proofs.Common.{◌≡◌, false, take}
use Rattle.run_rules.specs.Facts.{is_failed, has_event}
use Rattle.flume_cli.proofs.top.has_failed.Given as goal

-- none of the events so far is a failed Final
abbrev pub invariant-loop-event : goal.invariant-loop-event
invariant-loop-event l = has_event is_failed (take l.event-index l.event-items) ≡ false
