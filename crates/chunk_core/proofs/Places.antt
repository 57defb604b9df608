-- Lists read at a place.
use Rattle.std.proofs.Common.{◌≡◌, ◌≢◌, ℕ, zero, suc, ◌⊎◌, List, [], ◌∷◌, ◌++◌, map, length, slice_set, inl, inr, refl, sym, ap, ⊎_elim, arith}
use mathlib.Core.Option.{some, some-injective, some-ne-none}
use lib.ListN.{get_elem?}

module _ {A : Type 0} where
  pub at_set : (l : List A) (i j : ℕ) (a b : A) → get_elem? (slice_set l i a) j ≡ some b → ((j ≡ i) × (a ≡ b)) ⊎ ((j ≢ i) × (get_elem? l j ≡ some b))
  at_set [] i j a b e = absurd (some-ne-none b (sym e))
  at_set (x ∷ xs) zero zero a b e = inl (refl, some-injective a b e)
  at_set (x ∷ xs) zero (suc j) a b e = inr ((λ h. omega arith), e)
  at_set (x ∷ xs) (suc i) zero a b e = inr ((λ h. omega arith), e)
  at_set (x ∷ xs) (suc i) (suc j) a b e = ⊎_elim (λ t. inl (ap suc t.0, t.1)) (λ t. let n = t.0 in inr ((λ h. n (omega arith)), t.1)) (at_set xs i j a b e)

  pub set_again : (l : List A) (i : ℕ) (a : A) → get_elem? l i ≡ some a → slice_set l i a ≡ l
  set_again [] i a e = refl
  set_again (x ∷ xs) zero a e = ap (λ y. y ∷ xs) (sym (some-injective x a e))
  set_again (x ∷ xs) (suc i) a e = ap (λ l. x ∷ l) (set_again xs i a e)

  pub at_longer : (l m : List A) (i : ℕ) (a : A) → get_elem? l i ≡ some a → get_elem? (l ++ m) i ≡ some a
  at_longer [] m i a e = absurd (some-ne-none a (sym e))
  at_longer (x ∷ xs) m zero a e = e
  at_longer (x ∷ xs) m (suc i) a e = at_longer xs m i a e

  pub at_last : (l : List A) (a : A) (n : ℕ) → length l ≡ n → get_elem? (l ++ a ∷ []) n ≡ some a
  at_last [] a zero e = refl
  at_last [] a (suc n) e = absurd (omega arith)
  at_last (x ∷ xs) a zero e = absurd (omega arith)
  at_last (x ∷ xs) a (suc n) e = at_last xs a n (omega arith)

  pub at_map : {B : Type 0} (f : A → B) (l : List A) (i : ℕ) (a : A) → get_elem? l i ≡ some a → get_elem? (map f l) i ≡ some (f a)
  at_map f [] i a e = absurd (some-ne-none a (sym e))
  at_map f (x ∷ xs) zero a e = ap (λ (y : A). some (f y)) (some-injective x a e)
  at_map f (x ∷ xs) (suc i) a e = at_map f xs i a e
