-- The rows of a hand, and where each stands in it.
use Rattle.std.proofs.Common.{◌≡◌, ℕ, suc, true, false, cond, eqb, List, [], ◌∷◌, slice_set, refl, sym, ap, subst, ⊎_elim, ne_eqb, eq-eqb}
use Rattle.std.proofs.lemmas.Bool.{cases_eq}
use Rattle.std.specs.Map.{keys_of}
use Rattle.row_seat.specs.Views.{with_row}

module _ {P : Type 0} where
  pub rows_with : (r : ℕ) (w : P) (xs : List (ℕ × P)) → keys_of (with_row r w xs) ≡ keys_of xs
  rows_with r w [] = refl
  rows_with r w (x ∷ xs) = elim (eqb x.0 r) as (λ b. keys_of (cond b ((x.0, w) ∷ xs) (x ∷ with_row r w xs)) ≡ x.0 ∷ keys_of xs) [ true ↦ refl | false ↦ ap (λ l. x.0 ∷ l) (rows_with r w xs) ]

  -- where the first pair with the row r stands
  abbrev pub spot : ℕ → List (ℕ × P) → ℕ
  spot r [] = 0
  spot r (x ∷ xs) = cond (eqb x.0 r) 0 (suc (spot r xs))

  pub set_spot : (r : ℕ) (w : P) (xs : List (ℕ × P)) → slice_set xs (spot r xs) (r, w) ≡ with_row r w xs
  set_spot r w [] = refl
  set_spot r w (x ∷ xs) =
      ⊎_elim
      (λ e. subst (λ b. slice_set (x ∷ xs) (cond b 0 (suc (spot r xs))) (r, w) ≡ cond b ((x.0, w) ∷ xs) (x ∷ with_row r w xs)) (sym (eq-eqb x.0 r e)) (ap (λ n. let y : ℕ × P = (n, w) in y ∷ xs) (sym e)))
      (λ ne. subst (λ b. slice_set (x ∷ xs) (cond b 0 (suc (spot r xs))) (r, w) ≡ cond b ((x.0, w) ∷ xs) (x ∷ with_row r w xs)) (sym (ne_eqb x.0 r ne)) (ap (λ t. x ∷ t) (set_spot r w xs)))
      (cases_eq x.0 r)
