-- What a depot tells.
use Rattle.std.specs.Prelude.{◌≡◌, ◌≢◌, ◌⊎◌, ℕ, ◌<◌, false, List, [], ◌∷◌, ◌++◌, length, Option, Some, None, option_map, unwrap_or, is_some, IfSome, map, nat_eq, true}
use Rattle.std.specs.List.{IsDistinct, list_any, AllByRecursion}
use Rattle.device_port.specs.declared.device.Mode.{Mode}
use Rattle.device_port.specs.declared.device.Mode.TheVariants as mode
use Rattle.device_port.specs.Device.{Place, DeviceTold}

-- the bytes of each path that is there
abbrev pub Files : Type 0
Files = List ℕ → Option (List ℕ)

-- files where they are told; the devices made, and the records of those that came back
pub record DepotTold : Type 0 where
  pub files : Option Files
  pub made : List Place
  pub retired : List DeviceTold

-- the bytes at a path, where files are told; none where the path isn't there
abbrev pub content_at : Option Files → List ℕ → Option (List ℕ)
content_at files path = option_map (λ f. unwrap_or (f path) []) files

-- a device that was just made
abbrev pub fresh : DepotTold → Place → DeviceTold
fresh depot place = record {
  number = length depot.made;
  place = place;
  present = option_map (λ f. is_some (f place.path)) depot.files;
  content = content_at depot.files place.path;
  at = 0;
  ended = false;
  written = option_map (λ f. []) depot.files;
  is_open = false;
  opens = 0;
  closes = 0;
  exit = None;
  open_faults = 0;
  read_faults = 0;
  write_faults = 0;
  close_faults = 0;
}

-- no record has the number
abbrev pub IsUnknown : ℕ → List DeviceTold → Type 0
IsUnknown n records = AllByRecursion (λ d. d.number ≢ n) records

-- a device was made for the path
pub record Makes (old new : DepotTold) (path : List ℕ) (mode : Mode) (dev : DeviceTold) : Type 0 where
  pub made : new ≡ record old { made = old.made ++ record { path = path; mode = mode } ∷ [] }
  pub device : dev ≡ fresh old (record { path = path; mode = mode })
  pub unknown : IsUnknown dev.number old.retired

-- the device was made by this depot, isn't open, and hasn't come back
pub record MayReturn (depot : DepotTold) (dev : DeviceTold) : Type 0 where
  pub made : dev.number < length depot.made
  pub closed : dev.is_open ≡ false
  pub unknown : IsUnknown dev.number depot.retired

-- the files are as before, but for the paths that were written
abbrev pub KeepsFilesBut : (List ℕ → Type 0) → Option Files → Option Files → Type 0
KeepsFilesBut IsWritten None None = Unit {0}
KeepsFilesBut IsWritten (Some f) (Some g) = (path : List ℕ) → IsWritten path ⊎ (g path ≡ f path)
KeepsFilesBut IsWritten None (Some g) = ⊥
KeepsFilesBut IsWritten (Some f) None = ⊥

-- the files are as before, but for the path of a device that was opened for writing
abbrev pub KeepsOtherFiles : DepotTold → DepotTold → DeviceTold → Type 0
KeepsOtherFiles old new dev = KeepsFilesBut (λ path. (dev.place.mode ≡ mode.Write) × (dev.opens ≡ 1) × (path ≡ dev.place.path)) old.files new.files

-- the path of a device that was opened for writing holds what was written, where files are told
abbrev pub KeepsWritten : Option Files → DeviceTold → Type 0
KeepsWritten files dev = dev.place.mode ≡ mode.Write → dev.opens ≡ 1 → IfSome files (λ f. f dev.place.path ≡ dev.written)

-- the numbers of these devices
abbrev pub device_numbers : List DeviceTold → List ℕ
device_numbers ds = map (λ d. d.number) ds

-- no two of these devices have one number
abbrev pub HaveOwnNumbers : List DeviceTold → Type 0
HaveOwnNumbers ds = IsDistinct nat_eq (device_numbers ds)

-- each of these devices has a number below n
abbrev pub AreBelow : ℕ → List DeviceTold → Type 0
AreBelow n ds = (q : ℕ) → list_any (nat_eq q) (device_numbers ds) ≡ true → q < n

-- what a depot that tells no files has come to
pub record CourseTold : Type 0 where
  pub made : List Place
  pub retired : List DeviceTold

-- the same, where no files are told
abbrev pub depot_of : CourseTold → DepotTold
depot_of c = record { files = None; made = c.made; retired = c.retired }
