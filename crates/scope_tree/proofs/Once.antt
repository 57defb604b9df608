-- Lists of open rows, in which no row stands twice.
use Rattle.std.proofs.Common.{◌≡◌, ℕ, cond, List, [], ◌∷◌, ◌++◌, ◌⊎◌, inl, inr, sym, ap, ◌∙◌, subst, ⊎_elim, ne_eqb, eq-eqb}
use Rattle.std.proofs.lemmas.Bool.{cases_eq}
use Rattle.chunk_core.specs.Lists.{IsAmong}
use Rattle.chunk_core.specs.Lists.IsAmong.{here, there}
use Rattle.chunk_core.proofs.Members.{among_cons, among_snoc}
use Rattle.row_seat.specs.Views.{HasRow, without_row}
use Rattle.row_seat.proofs.Hands.{among_rows, has_cons, has_hand, has_nil}
use Rattle.scope_tree.specs.Rows.{Once}
use Rattle.chunk_core.proofs.Distinct.{distinct_cons, distinct_head, distinct_one, distinct_tail}
use Rattle.std.specs.Map.{keys_of}

module _ {P : Type 0} where
  pub once_cons : (x : ℕ × P) (xs : List (ℕ × P)) → ¬ (HasRow xs x.0) → Once xs → Once (x ∷ xs)
  once_cons x xs n o = distinct_cons x.0 (keys_of xs) (λ m. n (has_hand x.0 xs m)) o

  pub once_head : (x : ℕ × P) (xs : List (ℕ × P)) → Once (x ∷ xs) → ¬ (HasRow xs x.0)
  once_head x xs o h = distinct_head x.0 (keys_of xs) o (among_rows (x.0, h.0) xs h.1)

  pub once_tail : (x : ℕ × P) (xs : List (ℕ × P)) → Once (x ∷ xs) → Once xs
  once_tail x xs o = distinct_tail x.0 (keys_of xs) o

module _ {P : Type 0} (r : ℕ) where
  pub has_without : (xs : List (ℕ × P)) (q : ℕ) → HasRow (without_row r xs) q → HasRow xs q
  has_without [] q h = h
  has_without (x ∷ xs) q h =
      ⊎_elim
      (λ e. let m : HasRow xs q = subst (λ b. HasRow (cond b xs (x ∷ without_row r xs)) q) (eq-eqb x.0 r e) h in (m.0, there x m.1))
      (λ ne. ⊎_elim (λ s. (x.1, subst (λ t. IsAmong (t, x.1) (x ∷ xs)) s (here xs))) (λ m. let t = has_without xs q m in (t.0, there x t.1)) (has_cons x (without_row r xs) q (subst (λ b. HasRow (cond b xs (x ∷ without_row r xs)) q) (ne_eqb x.0 r ne) h)))
      (cases_eq x.0 r)

  pub gone_without : (xs : List (ℕ × P)) → Once xs → ¬ (HasRow (without_row r xs) r)
  gone_without [] o h = has_nil r h
  gone_without (x ∷ xs) o h =
      ⊎_elim
      (λ e. let m : HasRow xs r = subst (λ b. HasRow (cond b xs (x ∷ without_row r xs)) r) (eq-eqb x.0 r e) h in once_head x xs o (subst (λ t. HasRow xs t) (sym e) m))
      (λ ne. ⊎_elim ne (gone_without xs (once_tail x xs o)) (has_cons x (without_row r xs) r (subst (λ b. HasRow (cond b xs (x ∷ without_row r xs)) r) (ne_eqb x.0 r ne) h)))
      (cases_eq x.0 r)

  pub once_without : (xs : List (ℕ × P)) → Once xs → Once (without_row r xs)
  once_without [] o = o
  once_without (x ∷ xs) o =
      ⊎_elim
      (λ e. subst (λ b. Once (cond b xs (x ∷ without_row r xs))) (sym (eq-eqb x.0 r e)) (once_tail x xs o))
      (λ ne. subst (λ b. Once (cond b xs (x ∷ without_row r xs))) (sym (ne_eqb x.0 r ne)) (once_cons x (without_row r xs) (λ h. once_head x xs o (has_without xs x.0 h)) (once_without xs (once_tail x xs o))))
      (cases_eq x.0 r)

  pub has_push : (xs : List (ℕ × P)) (p : P) (q : ℕ) → HasRow (xs ++ (r, p) ∷ []) q → HasRow xs q ⊎ (r ≡ q)
  has_push xs p q h = ⊎_elim (λ m. inl (h.0, m)) (λ e. inr (ap (λ y. y.0) (sym e))) (among_snoc xs (q, h.0) (r, p) h.1)

  pub once_push : (xs : List (ℕ × P)) (p : P) → Once xs → ¬ (HasRow xs r) → Once (xs ++ (r, p) ∷ [])
  once_push [] p o n = distinct_one r
  once_push (x ∷ xs) p o n = once_cons x (xs ++ (r, p) ∷ []) (λ h. ⊎_elim (once_head x xs o) (λ e. n (x.1, subst (λ t. IsAmong (t, x.1) (x ∷ xs)) (sym e) (here xs))) (has_push xs p x.0 h)) (once_push xs p (once_tail x xs o) (λ h. n (h.0, there x h.1)))

-- a row has one payload
pub once_pay : {P : Type 0} (r : ℕ) (p q : P) (xs : List (ℕ × P)) → Once xs → IsAmong (r, p) xs → IsAmong (r, q) xs → p ≡ q
once_pay r p q [] o a b = absurd (has_nil r (p, a))
once_pay r p q (x ∷ xs) o a b = ⊎_elim
    (λ e. ⊎_elim (λ f. ap (λ y. y.1) (e ∙ sym f)) (λ n. absurd (once_head x xs o (q, subst (λ z. IsAmong (z, q) xs) (ap (λ y. y.0) e) n))) (among_cons b))
    (λ m. ⊎_elim (λ f. absurd (once_head x xs o (p, subst (λ z. IsAmong (z, p) xs) (ap (λ y. y.0) f) m))) (λ n. once_pay r p q xs (once_tail x xs o) m n) (among_cons b))
    (among_cons a)
