-- Devices in memory of which no open, read or close fails.
use Rattle.std.specs.Prelude.{ℕ, ◌+◌, Bool, ◌&&◌, ◌||◌, not, List, length, nat_eq}
use Rattle.std.specs.List.{list_all}
use Rattle.device_port.specs.Device.{DeviceTold, is_read}
use Rattle.device_port.specs.declared.calls.ActCalls.{ActCalls}

-- no call of opening, reading or closing is to fail
abbrev pub is_spared : ActCalls → Bool
is_spared c = nat_eq (length c.opens.fail) 0 && (nat_eq (length c.reads.fail) 0 && nat_eq (length c.closes.fail) 0)

-- how many of its calls failed that opened, read or closed it
abbrev pub faults_but_writes : DeviceTold → ℕ
faults_but_writes d = d.open_faults + d.read_faults + d.close_faults

-- a device that is for reading failed no write
abbrev pub is_unwritten : DeviceTold → Bool
is_unwritten d = not (is_read d.place.mode) || nat_eq d.write_faults 0

-- no call failed on any of these devices, but writes on those that are for writing
abbrev pub are_unfailed : List DeviceTold → Bool
are_unfailed ds = list_all (λ d. nat_eq (faults_but_writes d) 0 && is_unwritten d) ds
