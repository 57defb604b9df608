-- What a worker asks of a job, and what is known of it when it comes back.
use Rattle.std.specs.Prelude.{List}
use Rattle.chunk_core.specs.Tables.{Values}
use Rattle.channel_bounded.specs.Ends.{HubSeen}
use Rattle.channel_bounded.specs.declared.message.Msg.{Msg}
use Rattle.device_port.specs.Device.{DeviceTold}
use Rattle.interrupt_ctx.specs.Ends.{BoardSeen}
use Rattle.pull_turns.specs.Piping.{StateMeaning}
use Rattle.row_seat.specs.declared.view.View.{View}
use Rattle.stream_jobs.specs.declared.job.Job.{Job}
use Rattle.stream_jobs.specs.Jobs.{FitsJob, IsAt, IsJob, IsSameJob, MaySendAll, seen_job}
use Rattle.stream_jobs.specs.Running.{Origin}

module _ {S V F D T : Type 0} (view : S → View V) (values : T → Values) (told : V → DeviceTold) (P : Values → StateMeaning F) (fits : S → D → Type 0) where
  -- b is the job of each origin that a is of, at the same hub and board, and fits each desk that a fits
  pub record ComesBack (a b : Job S V F V D T) : Type 0 where
    pub job : (w : Origin V F) → IsJob view values told P w a → IsJob view values told P w b
    pub same : IsSameJob (seen_job view values a) (seen_job view values b)
    pub fits_desk : (d : D) → FitsJob view told fits a d → FitsJob view told fits b d

  -- a is the job of some origin and fits its desk; and it is at its board, and at its hub, where it may send all that it will send
  pub record IsReady (may : List Msg → List Msg → Type 0) (a : Job S V F V D T) (desk : D) (hub : HubSeen) (board : BoardSeen) : Type 0 where
    pub job : (w : Origin V F) × IsJob view values told P w a
    pub fits_desk : FitsJob view told fits a desk
    pub place : IsAt (seen_job view values a) hub board
    pub may_send : MaySendAll may hub.capacity (seen_job view values a).sender.stream
