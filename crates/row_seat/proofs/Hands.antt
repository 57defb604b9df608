-- The payloads that a seat holds, by row.
use Rattle.std.proofs.Common.{◌≡◌, ◌≢◌, ◌∙◌, ℕ, ◌<◌, zero, suc, true, false, cond, eqb, List, [], ◌∷◌, ◌⊎◌, length, slice_index_or, remove, inl, inr, refl, sym, ap, subst, ⊎_elim, arith, ne_eqb, eq-eqb}
use Rattle.std.proofs.lemmas.Bool.{cases_eq}
use Rattle.chunk_core.specs.Lists.{IsAmong}
use Rattle.chunk_core.specs.Lists.IsAmong.{here, there}
use Rattle.chunk_core.proofs.Filters.{among_at}
use Rattle.chunk_core.proofs.Members.{among_cons, among_nil}
use Rattle.row_seat.specs.Views.{HasRow, without_row}
use Rattle.row_seat.specs.Hands.{spot}
use Rattle.std.specs.Map.{keys_of}
use Rattle.row_seat.specs.Steps.{without_one}

module _ {P : Type 0} where
  pub among_rows : (x : ℕ × P) (xs : List (ℕ × P)) → IsAmong x xs → IsAmong x.0 (keys_of xs)
  among_rows x xs (here ys) = here (keys_of ys)
  among_rows x xs (there y m) = there y.0 (among_rows x _ m)

  pub has_hand : (r : ℕ) (xs : List (ℕ × P)) → IsAmong r (keys_of xs) → HasRow xs r
  has_hand r [] m = absurd (among_nil m)
  has_hand r (x ∷ xs) m = ⊎_elim
      (λ e. (x.1, subst (λ n. let y : ℕ × P = (n, x.1) in IsAmong y (x ∷ xs)) (sym e) (here xs)))
      (λ n. let t = has_hand r xs n in (t.0, there x t.1))
      (among_cons m)

  -- a row is in the hands exactly where it is one of their rows
  pub row_among : (r : ℕ) (hands : List (ℕ × P)) (rows : List ℕ) → keys_of hands ≡ rows → HasRow hands r → IsAmong r rows
  row_among r hands rows held h = subst (λ l. IsAmong r l) held (among_rows (r, h.0) hands h.1)

  pub row_held : (r : ℕ) (hands : List (ℕ × P)) (rows : List ℕ) → keys_of hands ≡ rows → IsAmong r rows → HasRow hands r
  row_held r hands rows held m = has_hand r hands (subst (λ l. IsAmong r l) (sym held) m)

  pub rows_without : (r : ℕ) (xs : List (ℕ × P)) → keys_of (without_row r xs) ≡ without_one r (keys_of xs)
  rows_without r [] = refl
  rows_without r (x ∷ xs) = elim (eqb x.0 r) as (λ b. keys_of (cond b xs (x ∷ without_row r xs)) ≡ cond b (keys_of xs) (x.0 ∷ without_one r (keys_of xs))) [ true ↦ refl | false ↦ ap (λ l. x.0 ∷ l) (rows_without r xs) ]

  pub has_nil : (r : ℕ) → ¬ (HasRow {P = P} [] r)
  has_nil r h = among_nil h.1

  pub has_cons : (x : ℕ × P) (xs : List (ℕ × P)) (r : ℕ) → HasRow (x ∷ xs) r → (x.0 ≡ r) ⊎ HasRow xs r
  has_cons x xs r h = ⊎_elim (λ e. inl (ap (λ y. y.0) (sym e))) (λ m. inr (h.0, m)) (among_cons h.1)

  -- no row of the list is r
  pub absent : (xs : List (ℕ × P)) (r : ℕ) → ((k : ℕ) (d : ℕ × P) → k < length xs → (slice_index_or xs k d).0 ≢ r) → ¬ (HasRow xs r)
  absent [] r f h = has_nil r h
  absent (x ∷ xs) r f h = ⊎_elim (f 0 x (omega arith)) (absent xs r (λ k d l. f (suc k) d (omega arith))) (has_cons x xs r h)

  pub spot_is : (r : ℕ) (xs : List (ℕ × P)) (i : ℕ) → i < length xs → ((d : ℕ × P) → (slice_index_or xs i d).0 ≡ r) → ((k : ℕ) (d : ℕ × P) → k < i → (slice_index_or xs k d).0 ≢ r) → spot r xs ≡ i
  spot_is r [] i l at before = absurd (omega arith)
  spot_is r (x ∷ xs) zero l at before = subst (λ b. cond b 0 (suc (spot r xs)) ≡ 0) (sym (eq-eqb x.0 r (at x))) refl
  spot_is r (x ∷ xs) (suc i) l at before = subst (λ b. cond b 0 (suc (spot r xs)) ≡ suc i) (sym (ne_eqb x.0 r (before 0 x (omega arith)))) (ap suc (spot_is r xs i (omega arith) at (λ k e h. before (suc k) e (omega arith))))

  -- where a row of the hands stands
  pub spot_within : (r : ℕ) (xs : List (ℕ × P)) → HasRow xs r → spot r xs < length xs
  spot_within r [] h = absurd (has_nil r h)
  spot_within r (x ∷ xs) h = ⊎_elim
      (λ e. subst (λ b. cond b 0 (suc (spot r xs)) < suc (length xs)) (sym (eq-eqb x.0 r e)) (omega arith))
      (λ ne. subst (λ b. cond b 0 (suc (spot r xs)) < suc (length xs)) (sym (ne_eqb x.0 r ne)) (let t = spot_within r xs (⊎_elim (λ e. absurd (ne e)) (λ m. m) (has_cons x xs r h)) in omega arith))
      (cases_eq x.0 r)

  pub spot_row : (r : ℕ) (xs : List (ℕ × P)) (d : ℕ × P) → HasRow xs r → (slice_index_or xs (spot r xs) d).0 ≡ r
  spot_row r [] d h = absurd (has_nil r h)
  spot_row r (x ∷ xs) d h = ⊎_elim
      (λ e. subst (λ b. (slice_index_or (x ∷ xs) (cond b 0 (suc (spot r xs))) d).0 ≡ r) (sym (eq-eqb x.0 r e)) e)
      (λ ne. subst (λ b. (slice_index_or (x ∷ xs) (cond b 0 (suc (spot r xs))) d).0 ≡ r) (sym (ne_eqb x.0 r ne)) (spot_row r xs d (⊎_elim (λ e. absurd (ne e)) (λ m. m) (has_cons x xs r h))))
      (cases_eq x.0 r)

  pub spot_among : (r : ℕ) (xs : List (ℕ × P)) (x : ℕ × P) → HasRow xs r → x ≡ slice_index_or xs (spot r xs) x → (x.0 ≡ r) × IsAmong (r, x.1) xs
  spot_among r xs x h at = let head : x.0 ≡ r = ap (λ z. z.0) at ∙ spot_row r xs x h in
      (head, subst (λ (n : ℕ). IsAmong (n, x.1) xs) head (subst (λ z. IsAmong z xs) (sym at) (among_at xs (spot r xs) x (spot_within r xs h))))

  pub spot_removed : (r : ℕ) (xs : List (ℕ × P)) → HasRow xs r → remove xs (spot r xs) ≡ without_row r xs
  spot_removed r [] h = absurd (has_nil r h)
  spot_removed r (x ∷ xs) h = ⊎_elim
      (λ e. subst (λ b. remove (x ∷ xs) (cond b 0 (suc (spot r xs))) ≡ cond b xs (x ∷ without_row r xs)) (sym (eq-eqb x.0 r e)) refl)
      (λ ne. subst (λ b. remove (x ∷ xs) (cond b 0 (suc (spot r xs))) ≡ cond b xs (x ∷ without_row r xs)) (sym (ne_eqb x.0 r ne)) (ap (λ t. x ∷ t) (spot_removed r xs (⊎_elim (λ e. absurd (ne e)) (λ m. m) (has_cons x xs r h)))))
      (cases_eq x.0 r)
