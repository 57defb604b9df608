-- Where it need not stop nothing is done.
use Rattle.std.proofs.Common.{inr, refl}
use Rattle.tee_pump.proofs.serving.stop.Goals as goal

pub returns-else-must_stop : goal.returns-else-must_stop
returns-else-must_stop c = inr (c.if-must_stop.ensures.go, refl)
