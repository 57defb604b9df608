-- Another payload in an open row keeps a tree in order.
use Rattle.std.proofs.Common.{◌≡◌, ◌⊎◌, ℕ, suc, true, false, cond, eqb, List, [], ◌∷◌, length, inl, inr, refl, sym, ap, ◌∙◌, subst, ⊎_elim, arith, eq-eqb, ne_eqb}
use Rattle.std.proofs.lemmas.Bool.{cases_eq}
use Rattle.chunk_core.specs.Lists.{IsAmong}
use Rattle.chunk_core.specs.Lists.IsAmong.{here, there}
use Rattle.chunk_core.proofs.Members.{among_cons}
use Rattle.row_seat.specs.declared.view.View.{View}
use Rattle.row_seat.specs.Views.{HasRow, paid, with_row}
use Rattle.row_seat.proofs.Hands.{has_cons, has_nil}
use Rattle.scope_tree.specs.declared.branch.Branch.{Branch}
use Rattle.scope_tree.specs.declared.branch.AcquiredRow.{AcquiredRow}
use Rattle.scope_tree.specs.declared.branch.Spent.{Spent}
use Rattle.scope_tree.specs.declared.tree.Tree.{Tree}
use Rattle.scope_tree.specs.Calls.{Seen, used}
use Rattle.scope_tree.specs.Kept.{Kept, Shelved}
use Rattle.scope_tree.specs.Lending.{lent_tree}
use Rattle.scope_tree.specs.Rows.{Once}
use Rattle.scope_tree.specs.Trees.{Fits, IsConsistent, seen}
use Rattle.scope_tree.proofs.Grown.{holds_same, lends_less, rests_less}
use Rattle.scope_tree.proofs.Once.{once_cons, once_head, once_tail}

module _ {P : Type 0} (r : ℕ) (w : P) where
  pub has_with : (xs : List (ℕ × P)) (q : ℕ) → HasRow xs q → HasRow (with_row r w xs) q
  has_with [] q h = h
  has_with (x ∷ xs) q h = ⊎_elim
      (λ e. elim (eqb x.0 r) as (λ b. HasRow (cond b ((x.0, w) ∷ xs) (x ∷ with_row r w xs)) q) [
        | true ↦ (w, subst (λ z. IsAmong (z, w) ((x.0, w) ∷ xs)) e (here xs))
        | false ↦ (x.1, subst (λ z. IsAmong (z, x.1) (x ∷ with_row r w xs)) e (here (with_row r w xs)))
      ])
      (λ n. let t = has_with xs q n in elim (eqb x.0 r) as (λ b. HasRow (cond b ((x.0, w) ∷ xs) (x ∷ with_row r w xs)) q) [
        | true ↦ (n.0, let y : ℕ × P = (x.0, w) in there y n.1)
        | false ↦ (t.0, there x t.1)
      ])
      (has_cons x xs q h)

  pub with_has : (xs : List (ℕ × P)) (q : ℕ) → HasRow (with_row r w xs) q → HasRow xs q
  with_has [] q h = h
  with_has (x ∷ xs) q h = (elim (eqb x.0 r) as (λ b. HasRow (cond b ((x.0, w) ∷ xs) (x ∷ with_row r w xs)) q → HasRow (x ∷ xs) q) [
    | true ↦ λ n. ⊎_elim (λ e. (x.1, subst (λ z. IsAmong (z, x.1) (x ∷ xs)) e (here xs))) (λ i. (i.0, there x i.1)) (has_cons (x.0, w) xs q n)
    | false ↦ λ n. ⊎_elim (λ e. (x.1, subst (λ z. IsAmong (z, x.1) (x ∷ xs)) e (here xs))) (λ i. let t = with_has xs q i in (t.0, there x t.1)) (has_cons x (with_row r w xs) q n)
  ]) h

  -- a row of the list with its payload was there, or is that one
  pub with_among : (y : ℕ × P) (xs : List (ℕ × P)) → IsAmong y (with_row r w xs) → IsAmong y xs ⊎ (y ≡ (r, w))
  with_among y [] m = inl m
  with_among y (x ∷ xs) m = ⊎_elim
      (λ e. ⊎_elim (λ i. inr (i ∙ ap (λ z. let t : ℕ × P = (z, w) in t) e)) (λ i. inl (there x i)) (among_cons (subst (λ b. IsAmong y (cond b ((x.0, w) ∷ xs) (x ∷ with_row r w xs))) (eq-eqb x.0 r e) m)))
      (λ n. ⊎_elim (λ i. inl (subst (λ z. IsAmong z (x ∷ xs)) (sym i) (here xs))) (λ i. ⊎_elim (λ o. inl (there x o)) (λ o. inr o) (with_among y xs i)) (among_cons (subst (λ b. IsAmong y (cond b ((x.0, w) ∷ xs) (x ∷ with_row r w xs))) (ne_eqb x.0 r n) m)))
      (cases_eq x.0 r)

  once_with : (xs : List (ℕ × P)) → Once xs → Once (with_row r w xs)
  once_with [] o = o
  once_with (x ∷ xs) o = elim (eqb x.0 r) as (λ b. Once (cond b ((x.0, w) ∷ xs) (x ∷ with_row r w xs))) [ true ↦ o | false ↦ once_cons x (with_row r w xs) (λ h. once_head x xs o (with_has xs x.0 h)) (once_with xs (once_tail x xs o)) ]

  pub length_with : (xs : List (ℕ × P)) → length (with_row r w xs) ≡ length xs
  length_with [] = refl
  length_with (x ∷ xs) = elim (eqb x.0 r) as (λ b. length (cond b ((x.0, w) ∷ xs) (x ∷ with_row r w xs)) ≡ suc (length xs)) [ true ↦ refl | false ↦ ap suc (length_with xs) ]

  -- the row has that payload
  pub with_pay : (xs : List (ℕ × P)) → HasRow xs r → IsAmong (r, w) (with_row r w xs)
  with_pay [] h = absurd (has_nil r h)
  with_pay (x ∷ xs) h = ⊎_elim
      (λ e. subst (λ b. IsAmong (r, w) (cond b ((x.0, w) ∷ xs) (x ∷ with_row r w xs))) (sym (eq-eqb x.0 r e)) (subst (λ z. IsAmong (z, w) ((x.0, w) ∷ xs)) e (here xs)))
      (λ ne. subst (λ b. IsAmong (r, w) (cond b ((x.0, w) ∷ xs) (x ∷ with_row r w xs))) (sym (ne_eqb x.0 r ne)) (there x (with_pay xs (⊎_elim (λ e. absurd (ne e)) (λ n. n) (has_cons x xs r h)))))
      (cases_eq x.0 r)

  pub paid_keeps : (v : View P) (bs : List Branch) (hs : List AcquiredRow) → Kept v bs hs → Kept (paid v r w) bs hs
  paid_keeps v bs hs k = record {
    mirrors = k.mirrors;
    holds = holds_same v (paid v r w) (λ q t m. ((λ c. c), (λ c. c))) (λ q. (has_with v.opened q, with_has v.opened q)) (once_with v.opened k.holds.once) k.holds;
    lends = lends_less v (paid v r w) (λ y m. m) (with_has v.opened) (λ q m. m) (λ j s m. m) k.lends;
    rests = rests_less v (paid v r w) k.rests.handed k.rests.taken (λ q m. (m, λ a. a)) (let l = length_with v.opened in let s = k.rests.spare in omega (l, s, arith)) k.rests;
  }

  pub paid_shelved : (v : View P) (hs : List AcquiredRow) (xs : List (Spent P)) → Shelved v hs xs → Shelved (paid v r w) hs xs
  paid_shelved v hs xs s = record {
    said_are = s.said_are;
    distinct = s.distinct;
    opened = λ q h. s.opened q (with_has v.opened q h);
    pairs = s.pairs;
    empty = s.empty;
    leased = s.leased;
    ended = λ q t i. ⊎_elim (λ h. inl (has_with v.opened q h)) (λ h. inr h) (s.ended q t i);
    rises = s.rises;
  }

-- by what a seat's laws say of a payload that was lent
module _ {S P D : Type 0} (view : S → View P) (with_pay : S → ℕ → P → S) (pay_view : (s : S) (r : ℕ) (w : P) → view (with_pay s r w) ≡ paid (view s) r w) where
  pub lent_seen : (t : Tree S P D) (r : ℕ) (w : P) → seen view (lent_tree with_pay t r w) ≡ record (seen view t) { seat = paid (view t.seat) r w }
  lent_seen t r w = ap (λ v. let a : Seen P = record { seat = v; shelf = t.shelf.items; scopes = t.scopes; rows = t.rows } in a) (pay_view t.seat r w)

  lent_sound : (t : Tree S P D) (r : ℕ) (w : P) → IsConsistent view t → IsConsistent view (lent_tree with_pay t r w)
  lent_sound t r w s =
      let e = sym (pay_view t.seat r w) in record {
        kept = subst (λ v. Kept v t.branches.items t.acquisitions.items) e (paid_keeps r w (view t.seat) t.branches.items t.acquisitions.items s.kept);
        shelved = subst (λ v. Shelved v t.acquisitions.items t.shelf.items) e (paid_shelved r w (view t.seat) t.acquisitions.items t.shelf.items s.shelved);
        used = let u : used (seen view (lent_tree with_pay t r w)) ≡ used (seen view t) = ap used (lent_seen t r w) in let o = s.used in omega (u, o, arith);
        branches = s.branches;
        acquisitions = s.acquisitions;
        shelf = s.shelf;
        limit = s.limit;
        rows_limit = s.rows_limit;
      }

  pub lent_fits : (fits : S → D → Type 0) → ((s : S) (r : ℕ) (w : P) (d : D) → fits s d → fits (with_pay s r w) d) → (t : Tree S P D) (r : ℕ) (w : P) (d : D) → Fits view fits t d → Fits view fits (lent_tree with_pay t r w) d
  lent_fits fits pay_fits t r w d f = record { seat = pay_fits t.seat r w d f.seat; sound = lent_sound t r w f.sound }
