-- A device that is made leaves those that came back.
use Rattle.std.proofs.Common.{◌≡◌, ℕ, List, IfOk, OnErr, Result, Ok, Err, ap}
use Rattle.device_port.specs.Depot.{DepotTold, Makes}
use Rattle.device_port.specs.Device.{DeviceTold}
use Rattle.device_port.specs.Records.{record_told}
use Rattle.device_port.specs.declared.device.Mode.{Mode}
use Rattle.device_port.specs.declared.mem_device.MemDevice.{MemDevice}

pub retired_same : {E : Type 0} (old new : DepotTold) (path : List ℕ) (mode : Mode) (r : Result MemDevice E) → IfOk r (λ dev. Makes old new path mode (record_told dev.facts)) → OnErr r (new ≡ old) → new.retired ≡ old.retired
retired_same old new path mode (Ok dev) made unmade = ap (λ (x : DepotTold). x.retired) made.made
retired_same old new path mode (Err e) made unmade = ap (λ (x : DepotTold). x.retired) unmade
