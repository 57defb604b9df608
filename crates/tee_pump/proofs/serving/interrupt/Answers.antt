-- The run is interrupted, by this call or before it.
use Rattle.tee_pump.proofs.Served.{set_stops}
use Rattle.tee_pump.proofs.serving.interrupt.Goals as goal

pub returns : goal.returns
returns c = set_stops c.args.seat.now c.set.new.self (record { why = c.args.why; at = 0 }) c.set.result _ c.set.ensures.set c.set.ensures.stood
