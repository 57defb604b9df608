-- What holds of a job while others are at work.
use Rattle.std.specs.Prelude.{◌≢◌, ℕ}
use Rattle.chunk_core.specs.Tables.{Values}
use Rattle.device_port.specs.Device.{DeviceTold}
use Rattle.pull_turns.specs.Piping.{StateMeaning}
use Rattle.res_ledger.specs.declared.event.StreamNo.{StreamNo}
use Rattle.res_ledger.specs.declared.event.StreamNo.TheVariants.{Inner, Outer}
use Rattle.row_seat.specs.declared.view.View.{View}
use Rattle.row_seat.specs.Views.{OthersFit}
use Rattle.stream_jobs.specs.declared.job.Job.{Job}
use Rattle.stream_jobs.specs.Jobs.{FitsJob, IsJob}
use Rattle.stream_jobs.specs.Running.{Origin}

module _ {S V F D T : Type 0} (view : S → View V) (values : T → Values) (told : V → DeviceTold) (P : Values → StateMeaning F) (fits : S → D → Type 0) where
  -- a job fits the desk also after a call in the name k
  abbrev pub StaysFit : Origin V F → StreamNo → Type 0
  StaysFit w k = (j : Job S V F V D T) (d e : D) → IsJob view values told P w j → FitsJob view told fits j d → OthersFit view fits k d e → FitsJob view told fits j e

  -- the calls of another stream, and those of the outer one, leave the fit of a job, and so does a call in both names
  pub record OthersLeaveJobs : Type 0 where
    pub inner : (w : Origin V F) (m : ℕ) → m ≢ w.stream → StaysFit w (Inner m)
    pub outer : (w : Origin V F) → StaysFit w Outer
    pub both : (w : Origin V F) (m : ℕ) → m ≢ w.stream → (j : Job S V F V D T) (d e : D) → IsJob view values told P w j → FitsJob view told fits j d → ((o : S) → (view o).by ≢ Outer → (view o).by ≢ Inner m → fits o d → fits o e) → FitsJob view told fits j e
