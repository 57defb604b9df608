-- The devices of a stream in its rows.
use Rattle.std.specs.Prelude.{ℕ, suc, List, [], ◌∷◌}
use Rattle.device_port.specs.Device.{DeviceTold}
use Rattle.pull_stepper.specs.Sites.{SameDevice}

module _ {V : Type 0} (told : V → DeviceTold) where
  -- the devices of the rows from r on are these
  abbrev pub AreSame : (ℕ → DeviceTold) → ℕ → List V → Type 0
  AreSame w r [] = Unit {0}
  AreSame w r (d ∷ ds) = SameDevice (told d) (w r) × AreSame w (suc r) ds
