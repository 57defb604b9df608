-- What is done with the devices of a rotation.
use Rattle.std.specs.Prelude.{◌≡◌, ◌+◌, ◌-◌, ◌^◌, ◌<◌, ◌≤◌, ℕ, true, List, length, take, drop, IfSome, Result, Ok, Err}
use Rattle.chunk_core.specs.Lists.{IsAmong}
use Rattle.device_port.specs.declared.Failed.{Failed}
use Rattle.device_port.specs.declared.device.Mode.TheVariants as mode
use Rattle.device_port.specs.Device.{DeviceTold, moved, with_written}
use Rattle.row_seat.specs.Views.{paid}
use Rattle.scope_tree.specs.Calls.{Seen}

-- it is open to be written, and a fault more can be counted
pub record IsWritable (d : DeviceTold) : Type 0 where
  pub is_open : d.is_open ≡ true
  pub mode : d.place.mode ≡ mode.Write
  pub room : d.write_faults < 2 ^ 64 - 1

-- it is open to be read, and a fault more can be counted
pub record IsReadable (d : DeviceTold) : Type 0 where
  pub is_open : d.is_open ≡ true
  pub mode : d.place.mode ≡ mode.Read
  pub room : d.read_faults < 2 ^ 64 - 1

-- a proper front of the bytes was written, and then a write failed
pub record BreaksOff (old new : DeviceTold) (bytes : List ℕ) : Type 0 where
  pub count : ℕ
  pub front : count < length bytes
  pub told : new ≡ record (with_written old (take count bytes)) { write_faults = old.write_faults + 1 }

-- the bytes were written, or a front of them
abbrev pub WritesAll : {T : Type 0} → DeviceTold → DeviceTold → List ℕ → Result T Failed → Type 0
WritesAll old new bytes (Ok _) = new ≡ with_written old bytes
WritesAll old new bytes (Err _) = BreaksOff old new bytes

-- some of the next bytes were read, and none only at the end
pub record Reads (old new : DeviceTold) (buf : List ℕ) (n : ℕ) : Type 0 where
  pub count : n ≤ length buf
  pub told : new ≡ moved n old
  pub bytes : IfSome old.content (λ c. take n buf ≡ take n (drop old.at c))
  pub end : n ≡ 0 → IfSome old.content (λ c. length c ≤ old.at)

-- so it was, or a read failed
abbrev pub ReadsSome : DeviceTold → DeviceTold → List ℕ → Result ℕ Failed → Type 0
ReadsSome old new buf (Ok n) = Reads old new buf n
ReadsSome old new buf (Err _) = new ≡ record old { read_faults = old.read_faults + 1 }

module _ {V : Type 0} (told : V → DeviceTold) where
  -- the device in the row r was written, and the row has it still
  pub record WritesRow {T : Type 0} (r : ℕ) (a b : Seen V) (bytes : List ℕ) (result : Result T Failed) : Type 0 where
    pub before : V
    pub after : V
    pub held : IsAmong (r, before) a.seat.opened
    pub wrote : WritesAll (told before) (told after) bytes result
    pub tree : b ≡ record a { seat = paid a.seat r after }

  -- the device in the row r was read, and the row has it still
  pub record ReadsRow (r : ℕ) (a b : Seen V) (buf : List ℕ) (result : Result ℕ Failed) : Type 0 where
    pub before : V
    pub after : V
    pub held : IsAmong (r, before) a.seat.opened
    pub read : ReadsSome (told before) (told after) buf result
    pub tree : b ≡ record a { seat = paid a.seat r after }
