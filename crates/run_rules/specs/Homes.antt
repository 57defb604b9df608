-- The rows: each has one device, its home.
use Rattle.std.specs.Prelude.{◌≡◌, ◌⊎◌, ℕ, ◌+◌, ◌<◌, ◌≤◌, Bool, nat_eq, nat_lt, List, [], ◌∷◌, map, filter, length, Option, Some, None, IfSome}
use Rattle.std.specs.List.{AllByRecursion}
use Rattle.chunk_core.specs.Lists.{IsAmong}
use Rattle.res_ledger.specs.declared.event.What.{What}
use Rattle.res_ledger.specs.declared.event.What.TheVariants.{Acquire, Final}
use Rattle.res_ledger.specs.declared.event.StreamNo.TheVariants.{Inner}
use Rattle.device_port.specs.Device.{Place, DeviceTold, faults_of}
use Rattle.device_port.specs.Depot.{HaveOwnNumbers, content_at}
use Rattle.run_rules.specs.Facts.{Acts, at, first_numbers}
use Rattle.run_rules.specs.Devices.{came_back}
use Rattle.run_rules.specs.Work.{Work, Opener, Stream, Values, RunRecord, row_places, first_row_of}

-- the device came back in the run
abbrev pub IsBack : RunRecord → DeviceTold → Type 0
IsBack c d = IsAmong d (came_back c.depot_old c.depot_new)

-- no device was made for the row, and nothing was done on it
pub record IsUntouched (d : DeviceTold) : Type 0 where
  pub opens : d.opens ≡ 0
  pub at : d.at ≡ 0
  pub written : IfSome d.written (λ w. w ≡ [])
  pub faults : faults_of d ≡ 0

-- the rows from r on have these places, and their contents are those of the files at the start
abbrev pub AreAtHome : RunRecord → (ℕ → DeviceTold) → ℕ → List Place → Type 0
AreAtHome c w r [] = Unit {0}
AreAtHome c w r (p ∷ ps) =
    ((w r).place ≡ p) × ((w r).content ≡ content_at c.depot_old.files p.path) × (IsBack c (w r) ⊎ IsUntouched (w r)) × AreAtHome c w (r + 1) ps

-- something was tried on the device
abbrev pub is_tried : DeviceTold → Bool
is_tried d = nat_lt 0 (d.opens + d.open_faults)

-- a row that is acquired is one whose device was opened; its Final has the exit that its device was closed with, and is ok where no close of it failed
abbrev pub IsTied : (ℕ → DeviceTold) → What → Type 0
IsTied w (Acquire r s) = (w r).opens ≡ 1
IsTied w (Final r x ok) = ((w r).exit ≡ Some x) × (ok ≡ nat_eq (w r).close_faults 0)
IsTied w v = Unit {0}

-- the values are those of the tables, where their contents are told
abbrev pub HaveValues : Option Opener → (ℕ → DeviceTold) → Values → Type 0
HaveValues None w v = Unit {0}
HaveValues (Some o) w v = (t : ℕ) (key : List ℕ) → t < length o.tables → IfSome (w t).content (λ bytes. v t key ≡ o.value_of bytes key)

-- nothing was done on the devices of a stream that noted nothing
abbrev pub AreLeftAlone : Work → RunRecord → (ℕ → DeviceTold) → Type 0
AreLeftAlone work c w = (k r : ℕ) (s : Stream) → at work.streams k ≡ Some s → ¬ (Acts (Inner k) c.events) → first_row_of work k ≤ r → r < first_row_of work k + length s.places → IsUntouched (w r)

-- no device that was tried is the home of two rows, and each that came back is that of one
pub record HaveHomes (work : Work) (c : RunRecord) (v : Values) (w : ℕ → DeviceTold) : Type 0 where
  pub at_home : AreAtHome c w 0 (row_places work)
  pub apart : HaveOwnNumbers (filter is_tried (map w (first_numbers (length (row_places work)))))
  pub tied : AllByRecursion (λ e. IsTied w e.what) c.events
  pub values : HaveValues work.opener w v
  pub alone : AreLeftAlone work c w
  pub housed : (d : DeviceTold) → IsBack c d → (r : ℕ) × (r < length (row_places work)) × (d ≡ w r)
