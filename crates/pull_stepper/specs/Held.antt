-- What the finalizer of a device does.
use Rattle.std.specs.Prelude.{◌≡◌, Bool, true, false}
use Rattle.chunk_core.specs.declared.code.Exit.{Exit}
use Rattle.device_port.specs.Device.{DeviceTold, closed_with}

-- closed once more with this exit, well or not
abbrev pub closed_as : Exit → Bool → DeviceTold → DeviceTold
closed_as x true d = closed_with x d
closed_as x false d = record (closed_with x d) { close_faults = 1 }

-- an open device was closed with the exit that the finalizer was told, well where the answer is true; one that isn't open was left as it was, which is well
pub record FinishesDevice {V : Type 0} (told : V → DeviceTold) (old : V) (x : Exit) (ok : Bool) (new : V) : Type 0 where
  pub closed : (told old).is_open ≡ true → told new ≡ closed_as x ok (told old)
  pub same : (told old).is_open ≡ false → (ok ≡ true) × (new ≡ old)
