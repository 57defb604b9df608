-- What one stream that ran alone leaves: its devices, and its ledger.
use Rattle.std.specs.Prelude.{◌≡◌, ℕ, ◌<◌, ◌≤◌, Bool, nat_eq, List, [], ◌∷◌, ◌++◌, map, length, Some, None}
use Rattle.std.specs.List.Sorted.{IsPermutation}
use Rattle.std.specs.List.{AllByRecursion}
use Rattle.chunk_core.specs.Outcomes.{Outcomes, exit_of}
use Rattle.chunk_core.specs.declared.code.Exit.{Exit}
use Rattle.chunk_core.specs.declared.code.How.{How}
use Rattle.res_ledger.specs.declared.event.StreamNo.{StreamNo}
use Rattle.res_ledger.specs.declared.event.StreamNo.TheVariants.{Inner}
use Rattle.res_ledger.specs.declared.event.What.TheVariants.{Acquire, Close, Final}
use Rattle.res_ledger.specs.declared.event.Event.{Event}
use Rattle.res_ledger.specs.Ledger.{Notes, NotesClose, IsAcquired, IsLegal, IsStamped}
use Rattle.res_ledger.specs.Own.{opens, own}
use Rattle.res_ledger.specs.Whole.{IsComplete}
use Rattle.res_ledger.specs.Order.{IsOrdered}
use Rattle.device_port.specs.Device.{Place, DeviceTold}
use Rattle.device_port.specs.Depot.{DepotTold, KeepsFilesBut, KeepsWritten}
use Rattle.run_rules.specs.Facts.{leased_stream, first_numbers}
use Rattle.run_rules.specs.Devices.{IsWrittenBy, KeepsToWhatIsThere}
use Rattle.run_rules.specs.Work.{Work}
use Rattle.joined_runs.specs.Devices.{AreReturned}

-- one stream, with a row for each of these places, and at most so many scopes
abbrev pub alone : List Place → ℕ → ((ℕ → DeviceTold) → Outcomes) → ((ℕ → DeviceTold) → Outcomes) → Work
alone places scopes runs ideal_runs = record {
  opener = None;
  streams = record { places = places; scopes = scopes; until = None } ∷ [];
  runs = λ k v w. runs w;
  ideal_runs = λ k v w. ideal_runs w;
  listing = λ d ys e. ⊥;
  ideal_listing = λ d ys e. ⊥;
}

-- the depot made a device for each place, and each came back, in any order, with what was written to it kept; files changed only where one was opened for writing, and none was opened to be read
-- that isn't there
pub record ComesBack (old new : DepotTold) (places : List Place) (w : ℕ → DeviceTold) : Type 0 where
  pub made : new.made ≡ old.made ++ places
  pub back : List DeviceTold
  pub retired : new.retired ≡ old.retired ++ back
  pub each : IsPermutation (map w (first_numbers (length places))) back
  pub devices : AreReturned old.files (length old.made) w 0 places
  pub files : KeepsFilesBut (IsWrittenBy back) old.files new.files
  pub stored : AllByRecursion (KeepsWritten new.files) back
  pub there : AllByRecursion KeepsToWhatIsThere back

-- the ledger of this stream alone: it acquired the rows whose devices were opened and ended them as those were closed, leased nothing, opened at most so many scopes, and closed its root as it ended
pub record IsAccountOf (who : StreamNo) (count scopes : ℕ) (w : ℕ → DeviceTold) (how : How) (L : List Event) : Type 0 where
  pub stamped : IsStamped L
  pub opened : length (opens (own who L)) ≤ scopes
  pub legal : IsLegal L
  pub complete : IsComplete L
  pub ordered : IsOrdered L
  pub own : AllByRecursion (λ e. (e.by ≡ who) × (leased_stream e.what ≡ None)) L
  pub acquired : (r s : ℕ) → Notes L who (Acquire r s) → (r < count) × ((w r).opens ≡ 1)
  pub each : (r : ℕ) → r < count → (w r).opens ≡ 1 → IsAcquired L r
  pub ended : (r : ℕ) (x : Exit) (ok : Bool) → Notes L who (Final r x ok) → ((w r).exit ≡ Some x) × (ok ≡ nat_eq (w r).close_faults 0)
  pub closed : NotesClose L who 0
  pub exits : (x : Exit) → Notes L who (Close 0 x) → x ≡ exit_of how

-- the same of stream 0
abbrev pub IsAccount : ℕ → ℕ → (ℕ → DeviceTold) → How → List Event → Type 0
IsAccount count scopes w how L = IsAccountOf (Inner 0) count scopes w how L
