use denote.Param.Send.{sendable}
use Rattle.pull_stepper.proofs.Threads.{stepper_send}
use Rattle.pull_stepper.proofs.crossing.steppers_cross.Goals as goal

pub is_send-requires-send-T : goal.is_send-requires-send-T
is_send-requires-send-T g c κs within = search (sendable, stepper_send) depth 14
