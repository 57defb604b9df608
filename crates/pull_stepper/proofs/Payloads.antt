-- The payload of a row, in lists of rows with payloads.
use Rattle.std.proofs.Common.{◌≡◌, ◌≢◌, ℕ, cond, List, [], ◌∷◌, ◌++◌, Some, None, refl, sym, ap, ◌∙◌, subst, ⊎_elim, eq-eqb, ne_eqb, nat_eq}
use Rattle.std.proofs.lemmas.Bool.{cases_eq}
use Rattle.chunk_core.specs.Lists.{IsAmong}
use Rattle.chunk_core.specs.Lists.IsAmong.{here, there}
use Rattle.chunk_core.proofs.Members.{among_cons, among_nil}
use Rattle.res_ledger.specs.Order.{firsts}
use Rattle.row_seat.specs.Views.{HasRow, with_row, without_row}
use Rattle.scope_tree.specs.declared.branch.Spent.{Spent}
use Rattle.scope_tree.specs.Rows.{Once}
use Rattle.std.specs.List.{IsDistinct}
use Rattle.scope_tree.specs.Released.{said}
use Rattle.pull_stepper.specs.Sites.{pay_in, pays}
use Rattle.chunk_core.proofs.Distinct.{distinct_head, distinct_tail}
use Rattle.scope_tree.proofs.Once.{once_head, once_tail}

module _ {V : Type 0} where
  -- at the head
  pub pay_here : (r : ℕ) (x : ℕ × V) (xs : List (ℕ × V)) → x.0 ≡ r → pay_in r (x ∷ xs) ≡ Some x.1
  pay_here r x xs e = ap (λ b. cond b (Some x.1) (pay_in r xs)) (eq-eqb x.0 r e)

  pub pay_past : (r : ℕ) (x : ℕ × V) (xs : List (ℕ × V)) → x.0 ≢ r → pay_in r (x ∷ xs) ≡ pay_in r xs
  pay_past r x xs n = ap (λ b. cond b (Some x.1) (pay_in r xs)) (ne_eqb x.0 r n)

  pub pay_none : (r : ℕ) (xs : List (ℕ × V)) → ¬ (HasRow xs r) → pay_in r xs ≡ None
  pay_none r [] n = refl
  pay_none r (x ∷ xs) n =
      pay_past r x xs (λ e. n (x.1, subst (λ z. IsAmong (z, x.1) (x ∷ xs)) e (here xs))) ∙ pay_none r xs (λ h. n (h.0, there x h.1))

  pub pay_found : (r : ℕ) (d : V) (xs : List (ℕ × V)) → pay_in r xs ≡ Some d → IsAmong (r, d) xs
  pay_found r d [] h = absurd (let f : None ≡ Some d = h in cc)
  pay_found r d (x ∷ xs) h =
      ⊎_elim
      (λ e. let f : Some x.1 ≡ Some d = sym (pay_here r x xs e) ∙ h in let a : x.1 ≡ d = cc in subst (λ z. IsAmong (z, d) (x ∷ xs)) e (subst (λ z. IsAmong (x.0, z) (x ∷ xs)) a (here xs)))
      (λ n. there x (pay_found r d xs (sym (pay_past r x xs n) ∙ h)))
      (cases_eq x.0 r)

  pub none_pay : (r : ℕ) (xs : List (ℕ × V)) → pay_in r xs ≡ None → ¬ (HasRow xs r)
  none_pay r [] h m = among_nil m.1
  none_pay r (x ∷ xs) h m =
      ⊎_elim
      (λ e. let f : Some x.1 ≡ None = sym (pay_here r x xs e) ∙ h in cc)
      (λ n. ⊎_elim (λ e. n (ap (λ y. y.0) (sym e))) (λ i. none_pay r xs (sym (pay_past r x xs n) ∙ h) (m.0, i)) (among_cons m.1))
      (cases_eq x.0 r)

  -- where no row stands twice
  pub pay_once : (r : ℕ) (d : V) (xs : List (ℕ × V)) → Once xs → IsAmong (r, d) xs → pay_in r xs ≡ Some d
  pay_once r d [] o m = absurd (among_nil m)
  pay_once r d (x ∷ xs) o m =
      ⊎_elim
      (λ e. pay_here r x xs (ap (λ y. y.0) (sym e)) ∙ ap (λ y. Some y.1) (sym e))
      (λ i. pay_past r x xs (λ e. once_head x xs o (d, subst (λ z. IsAmong (z, d) xs) (sym e) i)) ∙ pay_once r d xs (once_tail x xs o) i)
      (among_cons m)

  pub pay_left : (r : ℕ) (d : V) (xs ys : List (ℕ × V)) → pay_in r xs ≡ Some d → pay_in r (xs ++ ys) ≡ Some d
  pay_left r d [] ys h = absurd (let f : None ≡ Some d = h in cc)
  pay_left r d (x ∷ xs) ys h =
      ⊎_elim
      (λ e. pay_here r x (xs ++ ys) e ∙ sym (pay_here r x xs e) ∙ h)
      (λ n. pay_past r x (xs ++ ys) n ∙ pay_left r d xs ys (sym (pay_past r x xs n) ∙ h))
      (cases_eq x.0 r)

  pub pay_right : (r : ℕ) (xs ys : List (ℕ × V)) → ¬ (HasRow xs r) → pay_in r (xs ++ ys) ≡ pay_in r ys
  pay_right r [] ys n = refl
  pay_right r (x ∷ xs) ys n =
      pay_past r x (xs ++ ys) (λ e. n (x.1, subst (λ z. IsAmong (z, x.1) (x ∷ xs)) e (here xs))) ∙ pay_right r xs ys (λ h. n (h.0, there x h.1))

  -- the rest of the list counts only where the row isn't in the first
  pub pay_front : (r : ℕ) (xs ys zs : List (ℕ × V)) → pay_in r ys ≡ pay_in r zs → pay_in r (xs ++ ys) ≡ pay_in r (xs ++ zs)
  pay_front r [] ys zs h = h
  pay_front r (x ∷ xs) ys zs h = ap (cond _ (Some x.1)) (pay_front r xs ys zs h)

  pub pay_back : (r : ℕ) (xs ys zs : List (ℕ × V)) → pay_in r xs ≡ pay_in r ys → pay_in r (xs ++ zs) ≡ pay_in r (ys ++ zs)
  pay_back r xs ys zs h =
      (elim (pay_in r xs) as (λ o. pay_in r xs ≡ o → pay_in r (xs ++ zs) ≡ pay_in r (ys ++ zs)) [
        | None ↦ λ e. pay_right r xs zs (none_pay r xs e) ∙ sym (pay_right r ys zs (none_pay r ys (sym h ∙ e)))
        | Some d ↦ λ e. pay_left r d xs zs e ∙ sym (pay_left r d ys zs (sym h ∙ e))
      ]) refl

  pub pay_without : (r q : ℕ) (xs : List (ℕ × V)) → q ≢ r → pay_in q (without_row r xs) ≡ pay_in q xs
  pay_without r q [] n = refl
  pay_without r q (x ∷ xs) n =
      ⊎_elim
      (λ e. ap (λ b. pay_in q (cond b xs (x ∷ without_row r xs))) (eq-eqb x.0 r e) ∙ sym (pay_past q x xs (λ i. n (sym i ∙ e))))
      (λ ne. ap (λ b. pay_in q (cond b xs (x ∷ without_row r xs))) (ne_eqb x.0 r ne) ∙ ap (cond _ (Some x.1)) (pay_without r q xs n))
      (cases_eq x.0 r)

  pub pay_with : (r : ℕ) (w : V) (xs : List (ℕ × V)) → HasRow xs r → pay_in r (with_row r w xs) ≡ Some w
  pay_with r w [] h = absurd (among_nil h.1)
  pay_with r w (x ∷ xs) h =
      ⊎_elim
      (λ e. ap (λ b. pay_in r (cond b ((x.0, w) ∷ xs) (x ∷ with_row r w xs))) (eq-eqb x.0 r e) ∙ pay_here r (x.0, w) xs e)
      (λ n. ap (λ b. pay_in r (cond b ((x.0, w) ∷ xs) (x ∷ with_row r w xs))) (ne_eqb x.0 r n) ∙ pay_past r x (with_row r w xs) n ∙ pay_with r w xs (⊎_elim (λ e. absurd (n (ap (λ y. y.0) (sym e)))) (λ i. (h.0, i)) (among_cons h.1)))
      (cases_eq x.0 r)

  pub pay_with_other : (r q : ℕ) (w : V) (xs : List (ℕ × V)) → q ≢ r → pay_in q (with_row r w xs) ≡ pay_in q xs
  pay_with_other r q w [] n = refl
  pay_with_other r q w (x ∷ xs) n =
      ⊎_elim
      (λ e. ap (λ b. pay_in q (cond b ((x.0, w) ∷ xs) (x ∷ with_row r w xs))) (eq-eqb x.0 r e) ∙ pay_past q (x.0, w) xs (λ i. n (sym i ∙ e)) ∙ sym (pay_past q x xs (λ i. n (sym i ∙ e))))
      (λ ne. ap (λ b. pay_in q (cond b ((x.0, w) ∷ xs) (x ∷ with_row r w xs))) (ne_eqb x.0 r ne) ∙ ap (cond _ (Some x.1)) (pay_with_other r q w xs n))
      (cases_eq x.0 r)

  -- the payloads of rows that ended
  pub pays_append : (xs ys : List (Spent V)) → pays (xs ++ ys) ≡ pays xs ++ pays ys
  pays_append [] ys = refl
  pays_append (x ∷ xs) ys = ap (λ l. let y : ℕ × V = (x.row, x.pay) in y ∷ l) (pays_append xs ys)

  pub pays_row : (xs : List (Spent V)) (r : ℕ) → HasRow (pays xs) r → IsAmong r (firsts (said xs))
  pays_row [] r h = absurd (among_nil h.1)
  pays_row (x ∷ xs) r h = ⊎_elim (λ e. subst (λ z. IsAmong z (firsts (said (x ∷ xs)))) (ap (λ y. y.0) (sym e)) (here (firsts (said xs)))) (λ i. there x.row (pays_row xs r (h.0, i))) (among_cons h.1)

  pub spent_pay : (xs : List (Spent V)) (x : Spent V) → IsAmong x xs → IsAmong (x.row, x.pay) (pays xs)
  spent_pay [] x m = absurd (among_nil m)
  spent_pay (y ∷ xs) x m = ⊎_elim (λ e. subst (λ (z : Spent V). IsAmong (z.row, z.pay) (pays (y ∷ xs))) (sym e) (here (pays xs))) (λ i. let z : ℕ × V = (y.row, y.pay) in there z (spent_pay xs x i)) (among_cons m)

  -- where no row ended twice
  pub pay_spent : (xs : List (Spent V)) (x : Spent V) → IsDistinct nat_eq (firsts (said xs)) → IsAmong x xs → pay_in x.row (pays xs) ≡ Some x.pay
  pay_spent [] x d m = absurd (among_nil m)
  pay_spent (y ∷ xs) x d m =
      ⊎_elim
      (λ e. pay_here x.row (y.row, y.pay) (pays xs) (ap (λ (z : Spent V). z.row) (sym e)) ∙ ap (λ (z : Spent V). Some z.pay) (sym e))
      (λ i. pay_past x.row (y.row, y.pay) (pays xs) (λ e. distinct_head y.row (firsts (said xs)) d (subst (λ z. IsAmong z (firsts (said xs))) (sym e) (pays_row xs x.row (x.pay, spent_pay xs x i)))) ∙ pay_spent xs x (distinct_tail y.row (firsts (said xs)) d) i)
      (among_cons m)
