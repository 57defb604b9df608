use Rattle.pull_stepper.specs.Held.{FinishesDevice}
use Rattle.pull_stepper.specs.Laws.{since_same}
use Rattle.pull_stepper.proofs.Turning.{halts_over}
use Rattle.worked_nodes.proofs.uses.close.Goals as goal

pub returns-else-is_none-clause-since : goal.returns-else-is_none-clause-since
returns-else-is_none-clause-since g c = since_same g.V.Device.told (FinishesDevice g.V.Device.told) _

pub returns-then-is_none-clause-over : goal.returns-then-is_none-clause-over
returns-then-is_none-clause-over g c = halts_over _ _ _ c.halt.ensures.halts
