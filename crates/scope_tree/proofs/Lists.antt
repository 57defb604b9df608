-- Lists of rows and of leases, with one less.
use Rattle.std.proofs.Common.{◌≡◌, ◌≢◌, ℕ, ◌+◌, ◌<◌, ◌≤◌, zero, suc, true, false, cond, not, eqb, List, [], ◌∷◌, ◌++◌, length, drop, slice_index_or, refl, sym, ap, ◌∙◌, subst, ⊎_elim, arith, ne_eqb, eq-eqb, append_assoc, append-nil, nat_eq, reverse}
use Rattle.std.proofs.lemmas.Bool.{cases_eq}
use Rattle.chunk_core.specs.Lists.{IsAmong}
use Rattle.chunk_core.specs.Lists.IsAmong.{here, there}
use Rattle.chunk_core.proofs.Filters.{among_filter}
use Rattle.chunk_core.proofs.Members.{among_nil, among_cons}
use Rattle.row_seat.specs.Views.{HasRow, without, without_pair, without_row}
use Rattle.scope_tree.specs.Released.{away, is_here}
use Rattle.std.specs.List.{IsDistinct}
use Rattle.scope_tree.proofs.Shapes.{drop_at}
use Rattle.chunk_core.proofs.Reversed.{reverse_cons}
use Rattle.chunk_core.proofs.Distinct.{distinct_head, distinct_tail}

pub without_self : (r : ℕ) (xs : List ℕ) → xs ≡ [] → without r (xs ++ r ∷ []) ≡ []
without_self r xs e = rw (e, eq-eqb r r refl) refl

pub other : (T : List ℕ) (r q : ℕ) → ¬ (IsAmong r T) → IsAmong q T → q ≢ r
other T r q no' m e = no' (subst (λ z. IsAmong z T) e m)

pub differs : (T : List ℕ) (q r : ℕ) → ¬ (IsAmong q (r ∷ T)) → q ≢ r
differs T q r n e = n (subst (λ z. IsAmong z (r ∷ T)) (sym e) (here T))

-- each other lease is still there
pub other_pair : (j r : ℕ) (y : ℕ × ℕ) (xs : List (ℕ × ℕ)) → ¬ ((y.0 ≡ j) × (y.1 ≡ r)) → IsAmong y xs → IsAmong y (without_pair j r xs)
other_pair j r y [] n m = absurd (among_nil m)
other_pair j r y (x ∷ xs) n m = ⊎_elim
    (λ e.
    let here' : IsAmong y (x ∷ without_pair j r xs) = subst (λ z. IsAmong y (z ∷ without_pair j r xs)) e (here (without_pair j r xs)) in
    let b : cond (eqb x.0 j) (eqb x.1 r) false ≡ false = ⊎_elim
    (λ a. ⊎_elim (λ c. absurd (n (ap (λ z. z.0) e ∙ a, ap (λ z. z.1) e ∙ c))) (λ c. ap (λ z. cond z (eqb x.1 r) false) (eq-eqb x.0 j a) ∙ ne_eqb x.1 r c) (cases_eq x.1 r))
    (λ a. ap (λ z. cond z (eqb x.1 r) false) (ne_eqb x.0 j a))
    (cases_eq x.0 j) in
    subst (λ t. IsAmong y (cond (not t) (x ∷ without_pair j r xs) (without_pair j r xs))) (sym b) here')
    (λ i. let k = other_pair j r y xs n i in elim (cond (eqb x.0 j) (eqb x.1 r) false) as (λ t. IsAmong y (cond (not t) (x ∷ without_pair j r xs) (without_pair j r xs))) [ true ↦ k | false ↦ there x k ])
    (among_cons m)

pub lose_pair : (j r : ℕ) (y : ℕ × ℕ) (xs : List (ℕ × ℕ)) → IsAmong y (without_pair j r xs) → IsAmong y xs
lose_pair j r y xs m = (among_filter (λ (x : ℕ × ℕ). not (cond (eqb x.0 j) (eqb x.1 r) false)) y xs m).0

-- a lease that was left is no longer there
pub lost_pair : (j r : ℕ) (xs : List (ℕ × ℕ)) → ¬ (IsAmong (j, r) (without_pair j r xs))
lost_pair j r xs m =
    let t = among_filter (λ (x : ℕ × ℕ). not (cond (eqb x.0 j) (eqb x.1 r) false)) (j, r) xs m in
    let e : cond (eqb j j) (eqb r r) false ≡ true = ap (λ b. cond b (eqb r r) false) (eq-eqb j j refl) ∙ eq-eqb r r refl in
    let z : false ≡ true = ap not (sym e) ∙ t.1 in cc

pub reverse_here : (xs : List ℕ) (at k d : ℕ) → at ≡ suc k → k < length xs → reverse (drop k xs) ≡ reverse (drop at xs) ++ slice_index_or xs k d ∷ []
reverse_here xs at k d e l = ap reverse (drop_at xs k d l) ∙ reverse_cons (slice_index_or xs k d) (drop (suc k) xs) ∙ ap (λ n. reverse (drop n xs) ++ slice_index_or xs k d ∷ []) (sym e)

reverse_split : (k : ℕ) (xs : List ℕ) → (X : List ℕ) × (reverse xs ≡ reverse (drop k xs) ++ X)
reverse_split zero xs = ([], sym (append-nil (reverse xs)))
reverse_split (suc k) [] = ([], refl)
reverse_split (suc k) (x ∷ xs) = let t = reverse_split k xs in (t.0 ++ x ∷ [], reverse_cons x xs ∙ ap (λ l. l ++ x ∷ []) t.1 ∙ append_assoc (reverse (drop k xs)) t.0 (x ∷ []))

pub reverse_next : (xs : List ℕ) (at k d : ℕ) → at ≡ suc k → k < length xs → (X : List ℕ) × (reverse xs ≡ (reverse (drop at xs) ++ slice_index_or xs k d ∷ []) ++ X)
reverse_next xs at k d e l = let t = reverse_split k xs in (t.0, t.1 ∙ ap (λ y. y ++ t.0) (reverse_here xs at k d e l))

module _ {P : Type 0} where
  pub keep_row : (r q : ℕ) (p : P) (xs : List (ℕ × P)) → IsAmong (q, p) xs → q ≢ r → IsAmong (q, p) (without_row r xs)
  keep_row r q p [] h ne = absurd (among_nil h)
  keep_row r q p (x ∷ xs) h ne =
      ⊎_elim
      (λ e. subst (λ b. IsAmong (q, p) (cond b xs (x ∷ without_row r xs))) (sym (eq-eqb x.0 r e)) (⊎_elim (λ s. absurd (ne (ap (λ y. y.0) s ∙ e))) (λ m. m) (among_cons h)))
      (λ no'. subst (λ b. IsAmong (q, p) (cond b xs (x ∷ without_row r xs))) (sym (ne_eqb x.0 r no')) (⊎_elim (λ s. subst (λ w. IsAmong w (x ∷ without_row r xs)) (sym s) (here (without_row r xs))) (λ m. there x (keep_row r q p xs m ne)) (among_cons h)))
      (cases_eq x.0 r)

  pub lose_row : (r : ℕ) (y : ℕ × P) (xs : List (ℕ × P)) → IsAmong y (without_row r xs) → IsAmong y xs
  lose_row r y [] h = h
  lose_row r y (x ∷ xs) h =
      ⊎_elim
      (λ e. there x (subst (λ b. IsAmong y (cond b xs (x ∷ without_row r xs))) (eq-eqb x.0 r e) h))
      (λ no'. ⊎_elim (λ s. subst (λ w. IsAmong w (x ∷ xs)) (sym s) (here xs)) (λ m. there x (lose_row r y xs m)) (among_cons (subst (λ b. IsAmong y (cond b xs (x ∷ without_row r xs))) (ne_eqb x.0 r no') h)))
      (cases_eq x.0 r)

  pub length_without_row : (r : ℕ) (p : P) (xs : List (ℕ × P)) → IsAmong (r, p) xs → length (without_row r xs) + 1 ≡ length xs
  length_without_row r p [] m = absurd (among_nil m)
  length_without_row r p (x ∷ xs) m =
      ⊎_elim
      (λ e. subst (λ b. length (cond b xs (x ∷ without_row r xs)) + 1 ≡ suc (length xs)) (sym (eq-eqb x.0 r e)) (omega arith))
      (λ ne. subst (λ b. length (cond b xs (x ∷ without_row r xs)) + 1 ≡ suc (length xs)) (sym (ne_eqb x.0 r ne)) (⊎_elim (λ s. absurd (ne (ap (λ y. y.0) (sym s)))) (λ n. let t = length_without_row r p xs n in omega arith) (among_cons m)))
      (cases_eq x.0 r)

  -- distinct rows that all stand in a list are no more than its length
  pub fit_in : (T : List ℕ) (xs : List (ℕ × P)) → IsDistinct nat_eq T → ((r : ℕ) → IsAmong r T → HasRow xs r) → length T ≤ length xs
  fit_in [] xs d h = omega arith
  fit_in (r ∷ T) xs d h =
      let p = h r (here T) in let l = length_without_row r p.0 xs p.1 in
      let t = fit_in T (without_row r xs) (distinct_tail r T d) (λ q m. let k = h q (there r m) in (k.0, keep_row r q k.0 xs k.1 (λ e. distinct_head r T d (subst (λ z. IsAmong z T) e m)))) in omega arith

  pub here_has : (r : ℕ) (xs : List (ℕ × P)) → is_here r xs ≡ true → HasRow xs r
  here_has r [] h = absurd (let z : false ≡ true = h in cc)
  here_has r (x ∷ xs) h = ⊎_elim (λ e. (x.1, subst (λ n. IsAmong (n, x.1) (x ∷ xs)) e (here xs))) (λ ne. let t = here_has r xs (ap (λ b. cond b true (is_here r xs)) (sym (ne_eqb x.0 r ne)) ∙ h) in (t.0, there x t.1)) (cases_eq x.0 r)

  pub away_append : (T U : List ℕ) (o : List (ℕ × P)) → away (T ++ U) o ≡ away T o + away U o
  away_append [] U o = omega arith
  away_append (r ∷ T) U o = let t = away_append T U o in elim (is_here r o) as (λ b. cond b (away (T ++ U) o) (suc (away (T ++ U) o)) ≡ cond b (away T o) (suc (away T o)) + away U o) [ true ↦ t | false ↦ (omega arith) ]

  pub away_more : (r : ℕ) (T : List ℕ) (o : List (ℕ × P)) → away T o ≤ away (r ∷ T) o
  away_more r T o = elim (is_here r o) as (λ b. away T o ≤ cond b (away T o) (suc (away T o))) [ true ↦ (omega arith) | false ↦ (omega arith) ]

  pub away_one : (r : ℕ) (T : List ℕ) (o : List (ℕ × P)) → ¬ (HasRow o r) → away (r ∷ T) o ≡ suc (away T o)
  away_one r T o n = elim (is_here r o) as (λ b. is_here r o ≡ b → cond b (away T o) (suc (away T o)) ≡ suc (away T o)) [ true ↦ λ h. absurd (n (here_has r o h)) | false ↦ λ h. refl ] refl

  pub away_le : (T : List ℕ) (o : List (ℕ × P)) → away T o ≤ length T
  away_le [] o = omega arith
  away_le (r ∷ T) o = let t = away_le T o in elim (is_here r o) as (λ b. cond b (away T o) (suc (away T o)) ≤ suc (length T)) [ true ↦ (omega arith) | false ↦ (omega arith) ]
