-- Membership in a list that grows at its end.
use Rattle.std.proofs.Common.{◌≡◌, List, [], ◌∷◌, ◌++◌, ◌⊎◌, inl, inr, refl, subst, ⊎_elim}
use Rattle.chunk_core.specs.Lists.{IsAmong}
use Rattle.chunk_core.specs.Lists.IsAmong.{here, there}

module _ {A : Type 0} where
  pub among_last : (xs : List A) (x : A) → IsAmong x (xs ++ x ∷ [])
  among_last [] x = here []
  among_last (y ∷ xs) x = there y (among_last xs x)

  pub among_left : {x : A} {xs : List A} (ys : List A) → IsAmong x xs → IsAmong x (xs ++ ys)
  among_left ys (here xs) = here (xs ++ ys)
  among_left ys (there y h) = there y (among_left ys h)

  pub among_mid : (xs ys : List A) (x : A) → IsAmong x (xs ++ (x ∷ ys))
  among_mid [] ys x = here ys
  among_mid (y ∷ xs) ys x = there y (among_mid xs ys x)

  pub among_cons : {x y : A} {xs : List A} → IsAmong x (y ∷ xs) → (x ≡ y) ⊎ IsAmong x xs
  among_cons (here xs) = inl refl
  among_cons (there y h) = inr h

  pub among_nil : {x : A} → IsAmong x [] → ⊥
  among_nil h = elim h [ ]

  pub among_snoc : (xs : List A) (x y : A) → IsAmong x (xs ++ y ∷ []) → IsAmong x xs ⊎ (x ≡ y)
  among_snoc [] x y h = ⊎_elim (λ e. inr e) (λ n. absurd (among_nil n)) (among_cons h)
  among_snoc (z ∷ xs) x y h = ⊎_elim (λ e. inl (subst (λ w. IsAmong x (w ∷ xs)) e (here xs))) (λ n. ⊎_elim (λ m. inl (there z m)) (λ e. inr e) (among_snoc xs x y n)) (among_cons h)
