-- What became of the devices that a run made.
use Rattle.std.specs.Prelude.{◌≡◌, ◌⊎◌, ℕ, ◌+◌, false, nat_eq, List, [], ◌∷◌, ◌++◌, map, length, Option, Some, None}
use Rattle.std.specs.List.{AllByRecursion, IsDistinct}
use Rattle.std.specs.List.Sorted.{IsPermutation}
use Rattle.chunk_core.specs.Lists.{IsAmong}
use Rattle.device_port.specs.Device.{Place, DeviceTold}
use Rattle.device_port.specs.Depot.{DepotTold, Files, KeepsFilesBut, KeepsWritten, content_at}
use Rattle.run_rules.specs.Devices.{IsWrittenBy, KeepsToWhatIsThere}
use Rattle.run_rules.specs.Facts.{at}
use Rattle.run_rules.specs.Homes.{IsUntouched}

-- it isn't open: it was never opened, or opened once and closed
pub record IsAtRest (d : DeviceTold) : Type 0 where
  pub shut : d.is_open ≡ false
  pub stage : ((d.opens ≡ 0) × (d.closes ≡ 0) × (d.close_faults ≡ 0) × (d.exit ≡ None)) ⊎ ((d.opens ≡ 1) × (d.closes ≡ 1))

-- the device with this number was made for the place, and is at rest
pub record IsReturned (files : Option Files) (number : ℕ) (place : Place) (d : DeviceTold) : Type 0 where
  pub number_is : d.number ≡ number
  pub place_is : d.place ≡ place
  pub content_is : d.content ≡ content_at files place.path
  pub rest : IsAtRest d

-- the device of the row was made with this number, and is at rest
abbrev pub IsMade : Option Files → List Place → ℕ → (ℕ → DeviceTold) → ℕ → Type 0
IsMade files places n w r = (p : Place) × (at places r ≡ Some p) × IsReturned files n p (w r)

-- the devices of these rows were made one after the other, with the numbers from n on
abbrev pub AreMade : Option Files → List Place → ℕ → (ℕ → DeviceTold) → List ℕ → Type 0
AreMade files places n w [] = Unit {0}
AreMade files places n w (r ∷ rs) = IsMade files places n w r × AreMade files places (n + 1) w rs

-- the rows from r on have such devices, with the numbers from n on
abbrev pub AreReturned : Option Files → ℕ → (ℕ → DeviceTold) → ℕ → List Place → Type 0
AreReturned files n w r [] = Unit {0}
AreReturned files n w r (p ∷ ps) = IsReturned files n p (w r) × AreReturned files (n + 1) w (r + 1) ps

-- no device was made for the place
pub record IsUnmadeAt (files : Option Files) (place : Place) (d : DeviceTold) : Type 0 where
  pub place_is : d.place ≡ place
  pub content_is : d.content ≡ content_at files place.path
  pub untouched : IsUntouched d

-- the depot made a device for each of some rows, and each came back, in any order, with what was written to it kept; files changed only where one was opened for writing, none was opened to be
-- read that isn't there, and no more was read of one than there is
pub record MadeComeBack (old new : DepotTold) (places : List Place) (w : ℕ → DeviceTold) : Type 0 where
  pub rows : List ℕ
  pub apart : IsDistinct nat_eq rows
  pub made : new.made ≡ old.made ++ map (λ r. (w r).place) rows
  pub back : List DeviceTold
  pub retired : new.retired ≡ old.retired ++ back
  pub each : IsPermutation (map w rows) back
  pub devices : AreMade old.files places (length old.made) w rows
  pub others : (r : ℕ) (p : Place) → at places r ≡ Some p → ¬ (IsAmong r rows) → IsUnmadeAt old.files p (w r)
  pub files : KeepsFilesBut (IsWrittenBy back) old.files new.files
  pub stored : AllByRecursion (KeepsWritten new.files) back
  pub there : AllByRecursion KeepsToWhatIsThere back
