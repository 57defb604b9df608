-- What the command cat does.
use Rattle.std.specs.Prelude.{◌≡◌, ℕ, ◌≤◌, true, false, is_some, List, [], ◌∷◌, ◌++◌, length, Option, None, IfSome}
use Rattle.std.specs.List.{AllByRecursion}
use Rattle.chunk_core.specs.Texts.{Frame, frames_text}
use Rattle.chunk_core.specs.Outcomes.{Outcomes}
use Rattle.chunk_core.specs.declared.code.How.TheVariants as how
use Rattle.device_port.specs.Device.{DeviceTold, to_read}
use Rattle.device_port.specs.Depot.{DepotTold}
use Rattle.device_port.specs.Sink.{SinkTold, with_bytes}
use Rattle.pull_nodes.specs.Failures.{FileTells}
use Rattle.pull_nodes.specs.Runs.{OrLeft, Reads, ReadsWhole, OpensThen}
use Rattle.run_rules.specs.Work.{Work, RunRecord}
use Rattle.run_rules.specs.Run.{Performs}
use Rattle.cat_run.specs.declared.outcome.Outcome.{Outcome}
pub use Rattle.cat_run.specs.Alone.{and_one}

-- a device is opened and read, and may be left at any time; the end tells of each failure of it
abbrev pub FileRuns : DeviceTold → Outcomes
FileRuns d ys e = OrLeft (Unit {0}) (OpensThen d (OrLeft (Unit {0}) (Reads d)) (Unit {0})) ys e × FileTells d e

-- a device is read whole
abbrev pub IdealFileRuns : DeviceTold → Outcomes
IdealFileRuns d = ReadsWhole d

-- one stream of one row, whose file is opened and read
abbrev pub cat_work : List ℕ → Work
cat_work path = record {
  opener = None;
  streams = record { places = to_read path ∷ []; scopes = 0; until = None } ∷ [];
  runs = λ k v w. FileRuns (w 0);
  ideal_runs = λ k v w. IdealFileRuns (w 0);
  listing = λ d ys e. ⊥;
  ideal_listing = λ d ys e. ⊥;
}

abbrev pub run_record_of : DepotTold → DepotTold → List Frame → Option Frame → List ℕ → Outcome → RunRecord
run_record_of old new frames cut rest o = record { depot_old = old; depot_new = new; ends = o.ends; events = o.ledger; frames = frames; cut = cut; rest = rest; memory = o.memory }

-- no frame has more than size bytes, nor has the one whose write failed
pub record FramesAreWithin (size : ℕ) (frames : List Frame) (cut : Option Frame) : Type 0 where
  pub fits : AllByRecursion (λ f. length f.payload ≤ size) frames
  pub cut_fits : IfSome cut (λ f. length f.payload ≤ size)

-- the work of cat was done, and the sink got the frames, of at most chunk bytes each, and what was written of the one whose write failed;
-- memory is told to be wanting only where no write failed and the stream, if it was begun, ended so
pub record RunsCat (path : List ℕ) (chunk : ℕ) (depot_old depot_new : DepotTold) (old new : SinkTold) (o : Outcome) : Type 0 where
  pub frames : List Frame
  pub cut : Option Frame
  pub rest : List ℕ
  pub broke : is_some cut ≡ o.sink_failed
  pub within : FramesAreWithin chunk frames cut
  pub performs : Performs (cat_work path) (run_record_of depot_old depot_new frames cut rest o)
  pub wrote : new ≡ record (with_bytes old (frames_text frames ++ rest)) { faults = and_one o.sink_failed old.faults }
  pub begun : o.ends ≡ [] → (o.sink_failed ≡ false) × (o.memory ≡ true)
  pub wanting : o.memory ≡ true → (o.sink_failed ≡ false) × AllByRecursion (λ e. e.how ≡ how.Memory) o.ends
