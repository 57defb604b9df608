-- Where an open job is.
use Rattle.std.specs.Prelude.{◌≡◌, ℕ}
use Rattle.chunk_core.specs.Tables.{Values}
use Rattle.device_port.specs.Device.{DeviceTold}
use Rattle.pull_turns.specs.Piping.{StateMeaning}
use Rattle.row_seat.specs.declared.view.View.{View}
use Rattle.stream_jobs.specs.declared.job.Job.{Job}
use Rattle.stream_workers.specs.Returns.{ComesBack}
use Rattle.stream_workers.specs.declared.open.Where.{Where}
use Rattle.stream_workers.specs.declared.open.Where.TheVariants as at

module _ {S V F D T : Type 0} (view : S → View V) (values : T → Values) (told : V → DeviceTold) (P : Values → StateMeaning F) (fits : S → D → Type 0) where
  -- the job that began as j is here, however far it is, or on a thread, which promised to give it back
  abbrev pub StandsAt : Job S V F V D T → Where S V F D T → Type 0
  StandsAt j (at.Here i) = ComesBack view values told P fits j i
  StandsAt j (at.Away h) = h.promise.0.value ≡ j

  pub record IsOpened (stream : ℕ) (j : Job S V F V D T) (a : Where S V F D T) : Type 0 where
    pub number : stream ≡ j.sender.stream
    pub stands : StandsAt j a
