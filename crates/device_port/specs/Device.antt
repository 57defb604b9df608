-- What a device tells.
use Rattle.std.specs.Prelude.{ℕ, ◌+◌, nat_eq, Bool, true, false, List, ◌++◌, Option, Some, option_map}
use Rattle.chunk_core.specs.declared.code.Exit.{Exit}
use Rattle.device_port.specs.declared.device.Mode.{Mode}
use Rattle.device_port.specs.declared.device.Mode.TheVariants as mode

-- for reading
abbrev pub is_read : Mode → Bool
is_read mode.Read = true
is_read mode.Write = false

-- for writing
abbrev pub is_write : Mode → Bool
is_write mode.Read = false
is_write mode.Write = true

-- a path and what is done there
pub record Place : Type 0 where
  pub path : List ℕ
  pub mode : Mode

-- what is read at a path
abbrev pub to_read : List ℕ → Place
to_read path = record { path = path; mode = mode.Read }

-- what is written at a path
abbrev pub to_write : List ℕ → Place
to_write path = record { path = path; mode = mode.Write }

-- `present` says whether the path was there when the device was made; `at` is where it reads on;
-- `ended` says that the last read that didn't fail gave nothing;
-- `exit` is how what used the device ended, told by the close
pub record DeviceTold : Type 0 where
  pub number : ℕ
  pub place : Place
  pub present : Option Bool
  pub content : Option (List ℕ)
  pub at : ℕ
  pub ended : Bool
  pub written : Option (List ℕ)
  pub is_open : Bool
  pub opens : ℕ
  pub closes : ℕ
  pub exit : Option Exit
  pub open_faults : ℕ
  pub read_faults : ℕ
  pub write_faults : ℕ
  pub close_faults : ℕ

abbrev pub faults_of : DeviceTold → ℕ
faults_of d = d.open_faults + d.read_faults + d.write_faults + d.close_faults

-- n bytes further, and at the end where that are none
abbrev pub moved : ℕ → DeviceTold → DeviceTold
moved n d = record d { at = d.at + n; ended = nat_eq n 0 }

-- these bytes behind what was written
abbrev pub with_written : DeviceTold → List ℕ → DeviceTold
with_written d bytes = record d { written = option_map (λ w. w ++ bytes) d.written }

-- closed once more, with this exit
abbrev pub closed_with : Exit → DeviceTold → DeviceTold
closed_with exit d = record d { is_open = false; closes = d.closes + 1; exit = Some exit }
