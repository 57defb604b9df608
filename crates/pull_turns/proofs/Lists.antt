-- Empty lists.
use Rattle.std.proofs.Common.{◌≡◌, ◌<◌, List, [], ◌∷◌, ◌++◌, length, refl, arith}

module _ {A : Type 0} where
  pub no_length : (xs : List A) → length xs ≡ 0 → xs ≡ []
  no_length [] h = refl
  no_length (x ∷ xs) h = absurd (omega (arith, h))

  -- a front of nothing is nothing
  pub no_front : (xs ys : List A) → [] ≡ xs ++ ys → 0 < length xs → ⊥
  no_front [] ys e h = omega (arith, h)
  no_front (x ∷ xs) ys e h = (cc)

  -- what is nothing with more before it is nothing
  pub no_rest : (xs ys : List A) → xs ++ ys ≡ [] → ys ≡ []
  no_rest [] ys e = e
  no_rest (x ∷ xs) ys e = (cc)
