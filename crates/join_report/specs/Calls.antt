-- What the calls of a report do.
use Rattle.std.specs.Prelude.{◌≡◌, ◌≢◌, ℕ, suc, ◌-◌, ◌<◌, ◌≤◌, Bool, true, false, nat_eq, if◌then◌else◌, length, Option, Some, None}
use Rattle.chunk_core.specs.Elements.{Bytes, elements, kind_of, rendering_of}
use Rattle.chunk_core.specs.Texts.{frame_text}
use Rattle.chunk_core.specs.declared.code.How.{How}
use Rattle.chunk_core.specs.declared.code.How.TheVariants as how
use Rattle.chunk_core.specs.declared.load.Load.{Load}
use Rattle.device_port.specs.Sink.{BreaksOff, SinkTold, with_bytes}
use Rattle.interrupt_ctx.specs.declared.why.Why.{Why}
use Rattle.interrupt_ctx.specs.declared.why.Why.TheVariants as why
use Rattle.join_tale.specs.Steps.{dropped, ended, ended_late, failed, lacked, outer_ended, unmade, written}
use Rattle.join_tale.specs.Tales.{IsOpen, Tale, frames_of}
use Rattle.join_report.specs.Accounts.{losing}
use Rattle.join_report.specs.Reports.{IsReport}
use Rattle.join_report.specs.declared.report.Report.{Report}

-- a load of stream k was left unwritten since a write failed
abbrev pub with_failure : Report → ℕ → Report
with_failure r k = record r { streams = losing r.streams k; ceased = true; sink_failed = true }

-- a load of stream k was left unwritten since memory was wanting
abbrev pub with_lack : Report → ℕ → Report
with_lack r k = record r { streams = losing r.streams k; ceased = true; memory = true }

-- a stream ended so: behind one for which there was no memory no frame is written
abbrev pub with_end : Report → How → Report
with_end r how.Memory = record r { ceased = true; memory = true }
with_end r how.Done = r
with_end r how.Halted = r
with_end r (how.Fault c) = r

-- no frame is to be written
abbrev pub is_zero : Option ℕ → Bool
is_zero None = false
is_zero (Some n) = nat_eq n 0

-- one frame more was counted of those that may be written, and the cause is told where it was the last
abbrev pub CountsFrom : Option ℕ → Report → Report → Option Why → Type 0
CountsFrom None old new answer = (new ≡ old) × (answer ≡ None)
CountsFrom (Some n) old new answer = (n ≤ 1 → (new ≡ record old { wanted = Some (n - 1); ceased = true }) × (answer ≡ Some why.Take)) × (1 < n → (new ≡ record old { wanted = Some (n - 1) }) × (answer ≡ None))

abbrev pub Counts : Report → Report → Option Why → Type 0
Counts old new answer = CountsFrom old.wanted old new answer

-- how a stream is reported whose end came so, where frames were no longer written, and where a load of it was left unwritten
abbrev pub told_how : Bool → Bool → How → How
told_how false lost h = h
told_how true lost how.Memory = how.Memory
told_how true lost how.Done = if lost then how.Halted else how.Done
told_how true lost how.Halted = how.Halted
told_how true lost (how.Fault c) = how.Halted

-- what is done with a load of stream k that came: what the sink tells behind it, the answer, and the tale that goes on so
pub data Writes (most : Option ℕ) (t : Tale) (k : ℕ) (load : Load) (old new : SinkTold) : Option Why → Tale → Type 0 where
  late : t.ceased ≡ true → new ≡ old → Writes most t k load old new None (dropped t k (rendering_of (elements load)))
  some : t.ceased ≡ false → most ≢ Some (suc (length (frames_of t.front))) → new ≡ with_bytes old (frame_text k (rendering_of (elements load))) → Writes most t k load old new None (written t k (rendering_of (elements load)))
  last : t.ceased ≡ false → most ≡ Some (suc (length (frames_of t.front))) → new ≡ with_bytes old (frame_text k (rendering_of (elements load))) → Writes most t k load old new (Some why.Take) (record (written t k (rendering_of (elements load))) { ceased = true })
  sink : t.ceased ≡ false → BreaksOff old new (frame_text k (rendering_of (elements load))) → Writes most t k load old new (Some why.Sink) (failed t k (rendering_of (elements load)))
  memory : t.ceased ≡ false → new ≡ old → kind_of load ≢ Bytes → Writes most t k load old new (Some why.Memory) (lacked t k (rendering_of (elements load)))

-- a load of the open stream k came: where the report told a tale, it tells the tale that goes on
abbrev pub WritesLoad : ℕ → Load → Report → Report → SinkTold → SinkTold → Option Why → Type 0
WritesLoad k load old new before behind answer = (most : Option ℕ) (n : ℕ) (t : Tale) → IsReport most n t old → IsOpen t k → (u : Tale) × Writes most t k load before behind answer u × IsReport most n u new

-- the tale in which the end of stream k comes
abbrev pub after_end : Tale → ℕ → How → Tale
after_end t k h = if t.ceased then ended_late t k h else ended t k h

-- the end of the open stream k came
abbrev pub EndsStream : ℕ → How → Report → Report → Type 0
EndsStream k h old new = (most : Option ℕ) (n : ℕ) (t : Tale) → IsReport most n t old → IsOpen t k → IsReport most n (after_end t k h) new

-- there was no memory to make stream k, the next one
abbrev pub MissesStream : ℕ → Report → Report → Type 0
MissesStream k old new = (most : Option ℕ) (n : ℕ) (t : Tale) → IsReport most n t old → length t.fates ≡ k → IsReport most n (unmade t) new

-- the outer stream ended
abbrev pub EndsOuter : How → Report → Report → Type 0
EndsOuter h old new = (most : Option ℕ) (n : ℕ) (t : Tale) → IsReport most n t old → IsReport most n (outer_ended t h) new
