-- What the devices of a rotation tell.
use Rattle.std.specs.Prelude.{◌≡◌, ◌+◌, ◌≤◌, ℕ, suc, Bool, true, List, [], ◌∷◌, ◌++◌, length, map, option_map}
use Rattle.device_port.specs.Device.{DeviceTold, Place, to_read, to_write}
use Rattle.device_port.specs.Depot.{DepotTold, IsUnknown, fresh}
use Rattle.run_rules.specs.Facts.{first_numbers}
use Rattle.rotate_rules.specs.Pieces.{file_name}

-- the place of file i
abbrev pub file_place : List ℕ → ℕ → Place
file_place prefix i = to_write (file_name prefix i)

-- devices were made for the path, and for the first k files
abbrev pub having_made : DepotTold → List ℕ → List ℕ → ℕ → DepotTold
having_made old path prefix k = record old { made = old.made ++ (to_read path ∷ map (λ i. file_place prefix i) (first_numbers k)) }

-- they were, and no record has the number of one of them
pub record HasMade (old : DepotTold) (path prefix : List ℕ) (k : ℕ) (now : DepotTold) : Type 0 where
  pub is : now ≡ having_made old path prefix k
  pub unknown : (r : ℕ) → r ≤ k → IsUnknown (length old.made + r) old.retired

-- the r-th device that was made, for this place
abbrev pub made_device : DepotTold → ℕ → Place → DeviceTold
made_device old r p = record (fresh old p) { number = length old.made + r }

-- it was opened
abbrev pub opened_device : DepotTold → ℕ → Place → DeviceTold
opened_device old r p = record (made_device old r p) { is_open = true; opens = 1 }

-- it couldn't be opened
abbrev pub unopened_device : DepotTold → ℕ → Place → DeviceTold
unopened_device old r p = record (made_device old r p) { open_faults = 1 }

-- file i, which was opened and written these bytes, and so many writes of it failed
abbrev pub file_told : DepotTold → List ℕ → ℕ → List ℕ → ℕ → DeviceTold
file_told old prefix i written faults = record (opened_device old (suc i) (file_place prefix i)) { written = option_map (λ files. written) old.files; write_faults = faults }

-- the file that is read, which was opened, gave so many bytes, and ended or not, and so many reads of it failed
abbrev pub source_told : DepotTold → List ℕ → ℕ → Bool → ℕ → DeviceTold
source_told old path at ended faults = record (opened_device old 0 (to_read path)) { at = at; ended = ended; read_faults = faults }
