-- What goes to a worker may go to another thread.
use denote.RattleType.{RattleType}
use denote.Param.Send.{IsSend, IsSync}
use denote.Param.SendFields.{as_row_send, declared_send}
use denote.Struct.Field.{row_field}
use Rattle.channel_bounded.specs.declared.rule.May.{Ghosts}
use Rattle.channel_bounded.proofs.Threads as channel
use Rattle.interrupt_ctx.proofs.Threads as board
use Rattle.stream_jobs.proofs.Threads.{job_send}
use Rattle.stream_workers.specs.contracts.away.Carried as Carried

pub carried_send : (S V F A P D T : RattleType) (g : Ghosts A.Denot) → IsSend S → IsSend V → IsSend F → IsSend A → IsSync A → IsSend P → IsSend D → IsSend T → IsSend (Carried.the_row S V F A P D T g)
carried_send S V F A P D T g s v f a b p d t = declared_send (Carried.the_type S V F A P D T g) (job_send S V F P D T s v f p t, (as_row_send (row_field D) d, (channel.handle_send A g a b, (board.handle_send, tt))))
