-- A job may go to another thread where its seat, its devices and its pipes may.
use denote.RattleType.{RattleType}
use denote.Param.Send.{IsSend, sendable}
use denote.Param.SendFields.{as_row_send, declared_send, variants_send}
use denote.Hole.{as_row}
use denote.Struct.Field.{row_field, u32-field}
use Rattle.std.proofs.Crossing.{send as heap}
use Rattle.std.specs.contracts.option.Option as Option'
use Rattle.chunk_core.proofs.code.How.TheSendSync as how
use Rattle.chunk_core.specs.contracts.code.How as How
use Rattle.channel_bounded.specs.contracts.message.Msg as Msg
use Rattle.chunk_core.proofs.list.List.TheSendSync as list
use Rattle.pull_stepper.proofs.held.Held.TheSendSync as held
use Rattle.scope_tree.proofs.branch.Spent.TheSendSync as spent
use Rattle.stream_jobs.proofs.running.JobLease.TheSendSync as lease
use Rattle.stream_jobs.specs.contracts.leaving.Left as Left
use Rattle.channel_bounded.proofs.message.Msg.TheSendSync as message
use Rattle.channel_bounded.proofs.sender.Sender.TheSendSync as sender
use Rattle.interrupt_ctx.proofs.board.BoardSeat.TheSendSync as seat
use Rattle.pull_stepper.proofs.Threads.{stepper_send}
use Rattle.stream_jobs.specs.contracts.job.Job as Job
use Rattle.stream_jobs.specs.contracts.running.Stage as Stage
use Rattle.stream_jobs.specs.contracts.running.Running as Running

u32s : IsSend (as_row u32-field)
u32s = as_row_send u32-field (search sendable depth 6)

message_send : IsSend (Option'.the_row Msg.the_row)
message_send = let a = message.the_send in search sendable depth 12

how_send : IsSend How.the_row
how_send = how.the_send

left_send : (S V : RattleType) → IsSend S → IsSend V → IsSend (Left.the_row S V)
left_send S V s v = declared_send (Left.the_type S V) (as_row_send (row_field S) s, (search (sendable, list.the_send, spent.the_send, held.the_send) depth 12, (search (sendable, list.the_send) depth 12, (how_send, tt))))

running_send : (S V F P D T : RattleType) → IsSend S → IsSend V → IsSend F → IsSend P → IsSend T → IsSend (Running.the_row S V F P D T)
running_send S V F P D T s v f p t = declared_send (Running.the_type S V F P D T) (u32s, (stepper_send S V F P D T s v f p t, (lease.the_send, (heap, tt))))

stage_send : (S V F P D T : RattleType) → IsSend S → IsSend V → IsSend F → IsSend P → IsSend T → IsSend (Stage.the_row S V F P D T)
stage_send S V F P D T s v f p t = variants_send (Stage.enum S V F P D T) ((running_send S V F P D T s v f p t, tt), ((left_send S V s v, tt), tt))

stages_send : (S V F P D T : RattleType) → IsSend S → IsSend V → IsSend F → IsSend P → IsSend T → IsSend (Option'.the_row (Stage.the_row S V F P D T))
stages_send S V F P D T s v f p t = let a = stage_send S V F P D T s v f p t in search sendable depth 12

pub job_send : (S V F P D T : RattleType) → IsSend S → IsSend V → IsSend F → IsSend P → IsSend T → IsSend (Job.the_row S V F P D T)
job_send S V F P D T s v f p t = declared_send (Job.the_type S V F P D T) (u32s, (stages_send S V F P D T s v f p t, (seat.the_send, (sender.the_send, (message_send, tt)))))
