-- How a row stands, by what a tree keeps.
use Rattle.std.proofs.Common.{◌≡◌, ℕ, cond, List, [], ◌∷◌, refl, sym, ap, ◌∙◌, subst, ⊎_elim, ne_eqb, eq-eqb, Some, None, Option}
use Rattle.std.proofs.lemmas.Bool.{cases_eq}
use Rattle.chunk_core.specs.Lists.{IsAmong}
use Rattle.chunk_core.specs.Lists.IsAmong.{here, there}
use Rattle.chunk_core.proofs.Members.{among_nil, among_cons}
use Rattle.res_ledger.specs.Ledger.{IsClosed}
use Rattle.res_ledger.specs.Order.{firsts}
use Rattle.row_seat.specs.Views.{HasRow}
use Rattle.scope_tree.specs.declared.branch.Branch.{Branch}
use Rattle.scope_tree.specs.declared.branch.AcquiredRow.{AcquiredRow}
use Rattle.scope_tree.specs.declared.branch.Standing.TheVariants.{Empty, Open, Left, Final}
use Rattle.scope_tree.specs.Calls.{Seen}
use Rattle.scope_tree.specs.Kept.{Kept, Shelved, acquisition_pairs, acquisition_rows}
use Rattle.scope_tree.specs.Released.{said}
use Rattle.scope_tree.specs.Standings.{StandsAs, found}
use Rattle.scope_tree.specs.Trace.{own_rows}
use Rattle.scope_tree.proofs.Grows.{pair_of_row}
use Rattle.scope_tree.proofs.Parting.{first_of_said, first_said}
use Rattle.scope_tree.proofs.Parts.{one_scope, row_of_pair}
use Rattle.scope_tree.proofs.Rooms.{open_held, own_is}

pub none_of : {A : Type 0} (o : Option A) → ((x : A) → (let s : Option A = Some x in o ≡ s) → ⊥) → o ≡ None
none_of o h = elim o as (λ p. ((x : _) → (let s : Option _ = Some x in p ≡ s) → ⊥) → p ≡ None) [ Some x ↦ λ f. absurd (f x refl) | None ↦ λ f. refl ] h

pub found_some : {A : Type 0} (r : ℕ) (y : A) (xs : List (ℕ × A)) → (let o : Option A = Some y in found r xs ≡ o) → IsAmong (r, y) xs
found_some {A = A} r y [] h = absurd (let z : (let o : Option A = Some y in None ≡ o) = h in cc)
found_some {A = A} r y (x ∷ xs) h = ⊎_elim
    (λ e. let q : (let o : Option A = Some y in Some x.1 ≡ o) = ap (λ b. cond b (Some x.1) (found r xs)) (sym (eq-eqb x.0 r e)) ∙ h in
    let i : x.1 ≡ y = cc in subst (λ z. IsAmong (z, y) (x ∷ xs)) e (subst (λ z. IsAmong (x.0, z) (x ∷ xs)) i (here xs)))
    (λ ne. there x (found_some r y xs (ap (λ b. cond b (Some x.1) (found r xs)) (sym (ne_eqb x.0 r ne)) ∙ h)))
    (cases_eq x.0 r)

pub found_none : {A : Type 0} (r : ℕ) (y : A) (xs : List (ℕ × A)) → found r xs ≡ None → ¬ (IsAmong (r, y) xs)
found_none r y [] h m = among_nil m
found_none {A = A} r y (x ∷ xs) h m = ⊎_elim
    (λ e. let q : (let o : Option A = Some x.1 in o ≡ None) = ap (λ b. cond b (Some x.1) (found r xs)) (sym (eq-eqb x.0 r e)) ∙ h in cc)
    (λ ne. ⊎_elim (λ i. ne (sym (ap (λ z. z.0) i))) (λ n. found_none r y xs (ap (λ b. cond b (Some x.1) (found r xs)) (sym (ne_eqb x.0 r ne)) ∙ h) n) (among_cons m))
    (cases_eq x.0 r)

module _ {P : Type 0} (a : Seen P) (bs : List Branch) (hs : List AcquiredRow) (k : Kept a.seat bs hs) (s : Shelved a.seat hs a.shelf) (r : ℕ) where
  pub stands_final : (ok : _) → IsAmong (r, ok) (said a.shelf) → StandsAs a r (Final ok)
  stands_final ok m = ((λ o. s.opened r o (first_of_said r ok (said a.shelf) m)), m)

  module _ (none : found r (said a.shelf) ≡ None) where
    unshelved : ¬ (IsAmong r (firsts (said a.shelf)))
    unshelved m = let t = first_said r (said a.shelf) m in found_none r t.0 (said a.shelf) none t.1

    own : (t : ℕ) → IsAmong (r, t) (acquisition_pairs hs) → IsAmong r (own_rows a.seat)
    own t m = subst (λ l. IsAmong r l) (sym (own_is a.seat bs hs k)) (row_of_pair r t hs m)

    pub stands_empty : found r (acquisition_pairs hs) ≡ None → StandsAs a r Empty
    stands_empty e =
        let n : ¬ (IsAmong r (acquisition_rows hs)) = λ m. let t = pair_of_row r hs m in found_none r t.0 (acquisition_pairs hs) e t.1 in
        ((λ m. n (subst (λ l. IsAmong r l) (own_is a.seat bs hs k) m)), (λ o. n (open_held a.seat bs hs k r o)), unshelved)

    pub stands_open : (t : ℕ) → IsAmong (r, t) (acquisition_pairs hs) → ¬ (IsClosed a.seat.events a.seat.by t) → StandsAs a r Open
    stands_open t m n = (own t m, k.holds.live r t m n, unshelved)

    pub stands_left : (t : ℕ) → IsAmong (r, t) (acquisition_pairs hs) → IsClosed a.seat.events a.seat.by t → StandsAs a r Left
    stands_left t m c =
        let shut : ¬ (HasRow a.seat.opened r) = λ h. let y = k.holds.only r h in y.2 (subst (λ z. IsClosed a.seat.events a.seat.by z) (sym (one_scope r y.0 t hs k.mirrors.distinct y.1 m)) c) in
        (own t m, shut, unshelved, ⊎_elim (λ o. absurd (shut o)) (λ o. ⊎_elim (λ i. absurd (unshelved i)) (λ w. w) o) (s.ended r t m))
