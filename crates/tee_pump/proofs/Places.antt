-- Lists read at a place.
use Rattle.std.proofs.Common.{◌≡◌, ℕ, zero, suc, ◌<◌, ◌⊎◌, ◌+◌, List, [], ◌∷◌, ◌++◌, inl, inr, length, refl, sym, ap, ◌∙◌, subst, ⊎_elim, append_assoc, length-append, slice_index_or, arith}
use mathlib.Core.Option.{some, some-injective, some-ne-none}
use Rattle.chunk_core.specs.Totals.{IsAt}

module _ {A : Type 0} where
  pub at_some : (xs : List A) (i : ℕ) → i < length xs → (x : A) × IsAt xs i x
  at_some [] i h = absurd (omega (arith, h))
  at_some (x ∷ xs) zero h = (x, refl)
  at_some (x ∷ xs) (suc i) h = at_some xs i (omega (arith, h))

  pub at_below : (xs : List A) (i : ℕ) (x : A) → IsAt xs i x → i < length xs
  at_below [] i x e = absurd (some-ne-none x (sym e))
  at_below (y ∷ xs) zero x e = omega arith
  at_below (y ∷ xs) (suc i) x e = let t = at_below xs i x e in omega (arith, t)

  pub at_snoc : (xs : List A) (y x : A) (i : ℕ) → IsAt (xs ++ y ∷ []) i x → IsAt xs i x ⊎ ((i ≡ length xs) × (x ≡ y))
  at_snoc [] y x zero e = inr (refl, sym (some-injective y x e))
  at_snoc [] y x (suc i) e = absurd (some-ne-none x (sym e))
  at_snoc (z ∷ xs) y x zero e = inl e
  at_snoc (z ∷ xs) y x (suc i) e = ⊎_elim (λ h. inl h) (λ h. inr (ap suc h.0, h.1)) (at_snoc xs y x i e)

  -- behind those that were taken
  pub at_taken : (all taken rest : List A) (x : A) → taken ++ (x ∷ rest) ≡ all → IsAt all (length taken) x
  at_taken all taken rest x e = subst (λ l. IsAt l (length taken) x) e (at_mid taken rest x)
    where
      at_mid : (xs ys : List A) (y : A) → IsAt (xs ++ (y ∷ ys)) (length xs) y
      at_mid [] ys y = refl
      at_mid (z ∷ xs) ys y = at_mid xs ys y

  pub one_taken : (all taken rest : List A) (x : A) → taken ++ (x ∷ rest) ≡ all → (taken ++ x ∷ []) ++ rest ≡ all
  one_taken all taken rest x e = append_assoc taken (x ∷ []) rest ∙ e

  pub one_longer : (xs : List A) (x : A) → length (xs ++ x ∷ []) ≡ length xs + 1
  one_longer xs x = length-append xs (x ∷ [])

  -- as it is read
  pub at_read : (l : List A) (i : ℕ) (x : A) → i < length l → x ≡ slice_index_or l i x → IsAt l i x
  at_read [] i x h e = absurd (omega (arith, h))
  at_read (y ∷ ys) zero x h e = ap some (sym e)
  at_read (y ∷ ys) (suc i) x h e = at_read ys i x (omega (arith, h)) e

  pub none_at : (l : List A) (i : ℕ) (x : A) → l ≡ [] → IsAt l i x → ⊥
  none_at l i x e at = let b = at_below l i x at in let n : length l ≡ 0 = ap length e in omega (arith, b, n)

  -- all were taken
  pub all_taken : (all taken rest : List A) → taken ++ rest ≡ all → length rest ≡ 0 → length taken ≡ length all
  all_taken all taken rest e n = let m : length taken + length rest ≡ length all = sym (length-append taken rest) ∙ ap length e in omega (arith, m, n)
