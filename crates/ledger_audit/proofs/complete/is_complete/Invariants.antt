use Rattle.std.proofs.Common.{take}
use Rattle.chunk_core.specs.Lists.{IsAmong}
use Rattle.res_ledger.specs.declared.event.Event.{Event}
use Rattle.ledger_audit.specs.Complete.{IsAnswered}
use Rattle.ledger_audit.proofs.complete.is_complete.Given as goal

abbrev pub invariant-loop-event : goal.invariant-loop-event
invariant-loop-event l = (e : Event) → IsAmong e (take l.event-index l.events) → IsAnswered l.events e.by e.what
