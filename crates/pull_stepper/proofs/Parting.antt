-- Where each device is once nothing is open.
use Rattle.std.proofs.Common.{◌≡◌, ℕ, suc, ◌+◌, Bool, true, false, List, [], ◌∷◌, ◌++◌, length, Option, Some, None, inl, refl, sym, ap, subst, ◌∙◌, ⊎_elim, arith, nat_eq}
use Rattle.std.proofs.lemmas.Bool.{false≢true}
use Rattle.std.specs.List.{filter_map, IsDistinct}
use Rattle.chunk_core.specs.Lists.{IsAmong}
use Rattle.chunk_core.proofs.Members.{among_nil}
use Rattle.device_port.specs.Device.{DeviceTold}
use Rattle.res_ledger.specs.Ledger.{IsClosed, IsUsable}
use Rattle.res_ledger.specs.Order.{firsts}
use Rattle.res_ledger.specs.Own.{is_closed}
use Rattle.row_seat.specs.declared.view.View.{View}
use Rattle.scope_tree.specs.declared.branch.Branch.{Branch}
use Rattle.scope_tree.specs.declared.branch.AcquiredRow.{AcquiredRow}
use Rattle.scope_tree.specs.declared.branch.Spent.{Spent}
use Rattle.scope_tree.specs.Kept.{Kept}
use Rattle.scope_tree.specs.Rows.{Once}
use Rattle.scope_tree.specs.Released.{said}
use Rattle.scope_tree.specs.Trace.{trace}
use Rattle.scope_tree.proofs.Covered.{closed_complete}
use Rattle.scope_tree.proofs.Beneath.{closed_sound}
use Rattle.pull_stepper.specs.Sites.{HasEnded, InOrder, IsClosedDevice, IsUnopened, Parted, Site, pay_in, pay_of, pays, slot, slot_of, told_at, told_by}
use Rattle.pull_stepper.specs.Sites.Parted.{none, unopened, ended}
use Rattle.pull_stepper.proofs.Payloads.{pay_once, pays_row, spent_pay}
use Rattle.pull_stepper.proofs.Slots.{slot_here, slot_past, slot_place}
use Rattle.chunk_core.proofs.Distinct.{distinct_head, distinct_nil, distinct_tail}
use Rattle.scope_tree.proofs.Once.{once_cons}

-- a tree whose root isn't open has closed it
pub root_closed : {P : Type 0} (v : View P) (bs : List Branch) (hs : List AcquiredRow) → Kept v bs hs → (IsUsable v.events v.by 0 → ⊥) → IsClosed v.events v.by 0
root_closed v bs hs k shut = by (is_closed (trace v) 0) refl
  where
    by : (b : Bool) → is_closed (trace v) 0 ≡ b → IsClosed v.events v.by 0
    by true e = closed_sound v 0 e
    by false e = absurd (shut (inl refl, λ c. false≢true (sym e ∙ closed_complete v bs hs k 0 (omega (arith, k.mirrors.size)) c)))

module _ {V : Type 0} where
  pays_once : (xs : List (Spent V)) → IsDistinct nat_eq (firsts (said xs)) → Once (pays xs)
  pays_once [] d = distinct_nil
  pays_once (x ∷ xs) d = once_cons (x.row, x.pay) (pays xs) (λ h. distinct_head x.row (firsts (said xs)) d (pays_row xs x.row h)) (pays_once xs (distinct_tail x.row (firsts (said xs)) d))

module _ {V : Type 0} (told : V → DeviceTold) where
  module _ (w : ℕ → DeviceTold) (shelf : List (Spent V)) (n : ℕ) where
    -- the device of p ended, and tells w
    abbrev Stands : ℕ → Type 0
    Stands p = (x : Spent V) × IsAmong x shelf × (x.row ≡ p) × (told x.pay ≡ w p) × IsClosedDevice (w p) x.exit x.ok

    parted_from : (i : ℕ) (xs : List (Option V)) → i + length xs ≡ n
        → ((p : ℕ) (d : V) → slot_of p i xs ≡ Some (Some d) → (told d ≡ w p) × IsUnopened (w p) × ¬ (IsAmong p (firsts (said shelf))))
        → ((p : ℕ) → slot_of p i xs ≡ Some None → Stands p)
        → Parted told w shelf n i (filter_map (λ o. o) xs)
    parted_from i [] e f g = let s : n ≡ i = omega arith in subst (λ j. Parted told w shelf n j []) s none
    parted_from i (None ∷ xs) e f g =
        let y = g i (slot_here i i None xs refl) in
        ended y.0 y.1 y.2 y.3 y.4
        (parted_from (suc i) xs (omega arith)
        (λ p d h. let l = (slot_place p (suc i) (Some d) xs h).0 in f p d (slot_past p i None xs (λ q. omega (arith, l)) ∙ h))
        (λ p h. let l = (slot_place p (suc i) None xs h).0 in g p (slot_past p i None xs (λ q. omega (arith, l)) ∙ h)))
    parted_from i (Some o ∷ xs) e f g =
        let y = f i o (slot_here i i (Some o) xs refl) in
        unopened o y.0 y.1 y.2
        (parted_from (suc i) xs (omega arith)
        (λ p d h. let l = (slot_place p (suc i) (Some d) xs h).0 in f p d (slot_past p i (Some o) xs (λ q. omega (arith, l)) ∙ h))
        (λ p h. let l = (slot_place p (suc i) None xs h).0 in g p (slot_past p i (Some o) xs (λ q. omega (arith, l)) ∙ h)))

  pub parted : (x : Site V) → InOrder told x → x.tree.seat.opened ≡ [] → IsDistinct nat_eq (firsts (said x.tree.shelf)) → ((r : ℕ) → IsAmong r x.tree.seat.empty → ¬ (IsAmong r (firsts (said x.tree.shelf))))
      → Parted told (told_at told x) x.tree.shelf (x.from + length x.slots) x.from (filter_map (λ o. o) x.slots)
  parted x o none_open distinct vacant =
      parted_from (told_at told x) x.tree.shelf (x.from + length x.slots) x.from x.slots refl
      (λ p d h. let e : told_at told x p ≡ told d = ap (λ s. told_by told s (pay_of x.tree p)) h in (sym e, subst IsUnopened (sym e) (o.waits p d h).1, vacant p (o.waits p d h).0))
      (λ p h.
      ⊎_elim
      (λ r. absurd (among_nil (subst (λ l. IsAmong (p, r.0) l) none_open r.1)))
      (λ y. let e = at_end p h y in (y.0, y.1, y.2, sym e, subst (λ t. IsClosedDevice t y.0.exit y.0.ok) (sym e) y.3))
      (o.gone p h))
    where
      at_end : (p : ℕ) → slot x p ≡ Some None → (y : HasEnded told x.tree p) → told_at told x p ≡ told y.0.pay
      at_end p h y =
          let found : pay_in p (pays x.tree.shelf) ≡ Some y.0.pay =
          pay_once p y.0.pay (pays x.tree.shelf) (pays_once x.tree.shelf distinct) (subst (λ r. IsAmong (r, y.0.pay) (pays x.tree.shelf)) y.2 (spent_pay x.tree.shelf y.0 y.1)) in
          let pay : pay_of x.tree p ≡ Some y.0.pay = ap (λ l. pay_in p (l ++ pays x.tree.shelf)) none_open ∙ found in
          ap (λ s. told_by told s (pay_of x.tree p)) h ∙ ap (λ q. told_by told (Some None) q) pay
