-- What holds of what every pipe gives.
use Rattle.std.specs.Prelude.{◌≡◌, List, ◌++◌, Option, Some, None}
use Rattle.chunk_core.specs.Elements.{Element}
use Rattle.chunk_core.specs.Feed.{Meaning}
use Rattle.chunk_core.specs.declared.code.Code.{Code}
use Rattle.chunk_core.specs.declared.code.Code.TheVariants as code
pub use Rattle.pull_nodes.specs.Plain.{IsFront}

-- what was given is a front of what is given when the input goes on or ends, and after a fault nothing more is given
pub record IsSteady (m : Meaning) : Type 0 where
  pub grows : (xs zs : List Element) → (m.part xs).fault ≡ None → IsFront (m.part xs).list (m.part (xs ++ zs)).list
  pub ends : (xs : List Element) → (m.part xs).fault ≡ None → IsFront (m.part xs).list (m.all xs).list
  pub stops : (xs zs : List Element) (c : Code) → (m.part xs).fault ≡ Some c → (m.part (xs ++ zs) ≡ m.part xs) × (m.all (xs ++ zs) ≡ m.part xs)

-- no device has such a fault
pub record IsNoDeviceFault (c : Option Code) : Type 0 where
  pub opening : c ≡ Some code.Open → ⊥
  pub reading : c ≡ Some code.Read → ⊥
  pub writing : c ≡ Some code.Write → ⊥
