-- Lists read at a place.
use Rattle.std.proofs.Common.{◌≡◌, ℕ, zero, suc, ◌<◌, List, [], ◌∷◌, length, refl, sym, ap, ◌∙◌, subst, arith}
use mathlib.Core.Option.{some-ne-none}
use Rattle.chunk_core.specs.Totals.{IsAt}

pub at_below : {A : Type 0} (xs : List A) (i : ℕ) (x : A) → IsAt xs i x → i < length xs
at_below [] i x e = absurd (some-ne-none x (sym e))
at_below (y ∷ xs) zero x e = omega arith
at_below (y ∷ xs) (suc i) x e = let t = at_below xs i x e in omega arith
