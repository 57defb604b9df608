-- A turn without memory, and then the halt.
use Rattle.pull_stepper.specs.Held.{FinishesDevice}
use Rattle.pull_stepper.specs.Laws.{since_then}
use Rattle.stream_jobs.proofs.stepping.step.Goals as goal

pub returns-in-Err-clause-since : goal.returns-in-Err-clause-since
returns-in-Err-clause-since g c = since_then g.V.Device.told (FinishesDevice g.V.Device.told) _ _ _ c.in-Err.ensures.since c.halt.ensures.since
