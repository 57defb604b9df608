-- The devices of tables, as they are made and opened.
use Rattle.std.specs.Prelude.{◌≡◌, ℕ, true, List, [], ◌∷◌, ◌++◌, length, map, Option, Result, Ok, Err}
use Rattle.chunk_core.specs.declared.code.Code.TheVariants as code
use Rattle.device_port.specs.Device.{DeviceTold, to_read}
use Rattle.device_port.specs.Depot.{DepotTold, Files, IsUnknown, fresh}
use Rattle.outer_tables.specs.declared.not_read.NotRead.{NotRead}
use Rattle.outer_tables.specs.declared.not_read.NotRead.TheVariants as why

-- the n-th device of a depot with these files, which was just made to read at the path
abbrev pub new_device : Option Files → ℕ → List ℕ → DeviceTold
new_device files n path = record (fresh (record { files = files; made = []; retired = [] }) (to_read path)) { number = n }

-- it was opened
abbrev pub when_open : DeviceTold → DeviceTold
when_open d = record d { is_open = true; opens = 1 }

-- it could not be opened
abbrev pub unopened : DeviceTold → DeviceTold
unopened d = record d { open_faults = 1 }

-- devices were made to read at these paths, these came back, and no file has changed
pub record MakesDevices (old new : DepotTold) (paths : List (List ℕ)) (back : List DeviceTold) : Type 0 where
  pub made : new.made ≡ old.made ++ map to_read paths
  pub retired : new.retired ≡ old.retired ++ back
  pub files : new.files ≡ old.files

-- a device was made and opened, or came back unopened, or memory was wanting and none was made
abbrev pub OpensDevice : {V : Type 0} → (V → DeviceTold) → List ℕ → DepotTold → DepotTold → Result V NotRead → Type 0
OpensDevice told path old new (Ok d) = MakesDevices old new (path ∷ []) [] × (told d ≡ when_open (new_device old.files (length old.made) path)) × IsUnknown (told d).number old.retired
OpensDevice told path old new (Err (why.Fault f)) = (f ≡ code.Open) × MakesDevices old new (path ∷ []) (unopened (new_device old.files (length old.made) path) ∷ [])
OpensDevice told path old new (Err why.Memory) = new ≡ old
