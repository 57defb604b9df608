-- What is read of a device.
use Rattle.std.specs.Prelude.{◌≡◌, ◌⊎◌, ℕ, ◌+◌, ◌-◌, ◌^◌, ◌<◌, ◌≤◌, true, List, length, take, drop, IfSome, Result, Ok, Err}
use Rattle.chunk_core.specs.declared.code.Code.TheVariants as code
use Rattle.device_port.specs.declared.device.Mode.TheVariants as mode
use Rattle.device_port.specs.Device.{DeviceTold}
use Rattle.outer_tables.specs.declared.not_read.NotRead.{NotRead}
use Rattle.outer_tables.specs.declared.not_read.NotRead.TheVariants as why

-- the most bytes that are read: one more than a table may have
abbrev pub most_read : ℕ
most_read = 16777217

-- it is open to be read, and a fault more can be counted
pub record IsReadable (d : DeviceTold) : Type 0 where
  pub is_open : d.is_open ≡ true
  pub mode : d.place.mode ≡ mode.Read
  pub room : d.read_faults < 2 ^ 64 - 1

-- the device gave these bytes from its place on, and no read failed
pub record Gives (old new : DeviceTold) (bytes : List ℕ) : Type 0 where
  pub few : length bytes ≤ most_read
  pub told : new ≡ record old { at = old.at + length bytes; ended = new.ended }
  pub given : IfSome old.content (λ c. bytes ≡ take (length bytes) (drop old.at c))

-- its last read gave nothing, which is at the end of its content
pub record IsAtEnd (d : DeviceTold) : Type 0 where
  pub ended : d.ended ≡ true
  pub whole : IfSome d.content (λ c. length c ≤ d.at)

-- it was read to its end, or as far as is read at most
pub record GivesAll (old new : DeviceTold) (bytes : List ℕ) : Type 0 where
  pub gives : Gives old new bytes
  pub end : ((length bytes < most_read) × IsAtEnd new) ⊎ (length bytes ≡ most_read)

-- it was read for some way, and so many reads failed
abbrev pub WasRead : ℕ → DeviceTold → DeviceTold → Type 0
WasRead faults old new = new ≡ record old { at = new.at; ended = new.ended; read_faults = old.read_faults + faults }

-- all was read, or one read failed and was the last, or memory was wanting
abbrev pub ReadsWhole : DeviceTold → DeviceTold → Result (List ℕ) NotRead → Type 0
ReadsWhole old new (Ok bytes) = GivesAll old new bytes
ReadsWhole old new (Err (why.Fault f)) = (f ≡ code.Read) × WasRead 1 old new
ReadsWhole old new (Err why.Memory) = WasRead 0 old new
