-- A stepper may go to another thread where its seat, its devices and its pipes may.
use denote.RattleType.{RattleType}
use denote.Param.Send.{IsSend, sendable}
use denote.Param.SendFields.{as_row_send, declared_send}
use denote.Struct.Field.{row_field}
use Rattle.std.proofs.Crossing.{Vec-send, crosses}
use Rattle.pull_turns.proofs.Threads.{runner_send}
use Rattle.pull_stepper.specs.contracts.resources.Resources as Resources
use Rattle.pull_stepper.specs.contracts.stepper.Stepper as Stepper

pub resources_send : (S V P D : RattleType) → IsSend S → IsSend V → IsSend P → IsSend (Resources.the_row S V P D)
resources_send S V P D s v p = search (sendable, crosses) depth 20

pub stepper_send : (S V F P D T : RattleType) → IsSend S → IsSend V → IsSend F → IsSend P → IsSend T → IsSend (Stepper.the_row S V F P D T)
stepper_send S V F P D T s v f p t = declared_send (Stepper.the_type S V F P D T) (runner_send (Resources.the_row S V P D) F (resources_send S V P D s v p) f, (Vec-send V v, (as_row_send (row_field T) t, tt)))
