-- Devices that go back to their depot.
use Rattle.std.specs.Prelude.{◌≡◌, ℕ, Bool, ◌&&◌, List, [], ◌++◌, map, Some}
use Rattle.std.specs.List.{AllByRecursion, IsDistinct}
use Rattle.std.specs.List.Sorted.{IsPermutation}
use Rattle.std.specs.Str.{bytes_eq}
use Rattle.device_port.specs.declared.device.Mode.TheVariants as mode
use Rattle.device_port.specs.Device.{Place, DeviceTold, is_write}
use Rattle.device_port.specs.Depot.{DepotTold, HaveOwnNumbers, MayReturn, KeepsFilesBut, KeepsWritten}
pub use Rattle.run_rules.specs.Devices.{IsWrittenBy}
use Rattle.run_rules.specs.Facts.{at}
use Rattle.scope_tree.specs.declared.branch.Spent.{Spent}

-- the devices on a shelf, and those that were never opened
abbrev pub devices_of : {V : Type 0} → (V → DeviceTold) → List (Spent V) → List V → List DeviceTold
devices_of told shelf unopened = map (λ x. told x.pay) shelf ++ map told unopened

-- a path that is written by one of these rows is the path of no other
abbrev pub AreWrittenAlone : List Place → Type 0
AreWrittenAlone places = (r q : ℕ) (p s : Place) → at places r ≡ Some p → at places q ≡ Some s → p.mode ≡ mode.Write → p.path ≡ s.path → r ≡ q

-- both devices are for writing, at one path
abbrev pub write_alike : DeviceTold → DeviceTold → Bool
write_alike d e = is_write d.place.mode && (is_write e.place.mode && bytes_eq d.place.path e.place.path)

-- no two of these devices are for writing at one path
abbrev pub HaveOwnOutputs : List DeviceTold → Type 0
HaveOwnOutputs ds = IsDistinct write_alike ds

-- Devices were made for these places, and these came back. Files changed only where one of those was opened for writing, and hold what was written where
-- no two of them are for writing at one path.
pub record Exchanges (old new : DepotTold) (places : List Place) (back : List DeviceTold) : Type 0 where
  pub made : new.made ≡ old.made ++ places
  pub retired : new.retired ≡ old.retired ++ back
  pub files : KeepsFilesBut (IsWrittenBy back) old.files new.files
  pub stored : HaveOwnOutputs back → AllByRecursion (KeepsWritten new.files) back

-- each of these devices may come back, and no two have one number
pub record MayReturnAll (depot : DepotTold) (ds : List DeviceTold) : Type 0 where
  pub each : AllByRecursion (MayReturn depot) ds
  pub apart : HaveOwnNumbers ds

-- these devices came back, in any order, and none was made
pub record Returns (old new : DepotTold) (ds : List DeviceTold) : Type 0 where
  pub back : List DeviceTold
  pub each : IsPermutation ds back
  pub exchanges : Exchanges old new [] back
