-- The devices that are left of streams.
use Rattle.std.specs.Prelude.{List, flat_map}
use Rattle.device_port.specs.Device.{DeviceTold}
use Rattle.stream_parts.specs.Retire.{devices_of}
use Rattle.dealt_streams.specs.declared.leftover.Leftover.{Leftover}

-- the devices of each, one after the other
abbrev pub left_devices : {V : Type 0} → (V → DeviceTold) → List (Leftover V) → List DeviceTold
left_devices told left = flat_map (λ x. devices_of told x.shelf x.unopened) left
