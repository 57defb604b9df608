-- Lists of views: what stands at a place, and sums over all.
use Rattle.std.specs.Prelude.{◌≡◌, ℕ, ◌+◌, List, [], ◌∷◌}
use lib.ListN.{get_elem?}
use mathlib.Core.Option.{some}

-- v stands at the place i
abbrev pub IsAt : {V : Type 0} → List V → ℕ → V → Type 0
IsAt views i v = get_elem? views i ≡ some v

-- f of each view, added up
abbrev pub total : {V : Type 0} → (V → ℕ) → List V → ℕ
total f [] = 0
total f (v ∷ vs) = f v + total f vs
