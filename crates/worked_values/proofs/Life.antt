-- The views of a seat through the life of one row.
use Rattle.std.proofs.Common.{◌≡◌, ℕ, ◌<◌, ◌-◌, ◌^◌, ◌≢◌, ◌↔◌, true, arith, List, [], ◌∷◌, ◌⊎◌, inl, inr, refl, sym, ap, ◌∙◌, subst, ⊎_elim}
use Rattle.chunk_core.specs.Lists.{IsAmong}
use Rattle.chunk_core.specs.Lists.IsAmong.{here, there}
use Rattle.chunk_core.proofs.Members.{among_cons, among_nil}
use Rattle.chunk_core.specs.declared.code.Exit.TheVariants.{Succeeded}
use Rattle.res_ledger.specs.declared.event.Event.{Event}
use Rattle.res_ledger.specs.declared.event.StreamNo.TheVariants.{Outer, Inner}
use Rattle.res_ledger.specs.declared.event.What.{What}
use Rattle.res_ledger.specs.declared.event.What.TheVariants.{Acquire, Lease, Close, Final}
use Rattle.res_ledger.specs.Ledger.{IsUsable, Notes, IsStamped}
use Rattle.res_ledger.specs.Ledger.LiesWithin.{same}
use Rattle.res_ledger.proofs.Apart.{apart}
use Rattle.res_ledger.proofs.Ledgers.{covers_leased}
use Rattle.res_ledger.specs.Rising.{Rises}
use Rattle.res_ledger.proofs.Orders.{rising_is}
use Rattle.row_seat.specs.declared.view.View.{View}
use Rattle.row_seat.specs.declared.view.Left.{Left}
use Rattle.row_seat.specs.declared.view.Left.TheVariants.{Stays, Yours}
use Rattle.row_seat.specs.Views.{CanSplit, start, noted, placed, paid, shut, handed_over, took, ClosesRow, IsFreshStamp, HasRow, MayNote, CanPlace, CanClose, CanTake, CanFinish}

abbrev pub event : ℕ → What → Event
event n w = record { stamp = n; by = Outer; what = w }

abbrev pub acquired : ℕ → View ℕ
acquired a = noted (start Outer 1 3 (2 ^ 32 - 1)) (event a (Acquire 0 0))

abbrev pub written : ℕ → View ℕ
written a = paid (placed (acquired a) 0 7) 0 8

abbrev pub closed : ℕ → ℕ → View ℕ
closed a b = noted (written a) (event b (Close 0 Succeeded))

abbrev pub mine : ℕ → ℕ → View ℕ
mine a b = handed_over (shut (closed a b) 0 8) 0 8

abbrev pub final : ℕ → ℕ → ℕ → View ℕ
final a b d = noted (took (mine a b) 0) (event d (Final 0 Succeeded true))

two : (a b : ℕ) (w : What) → Notes (event a (Acquire 0 0) ∷ event b (Close 0 Succeeded) ∷ []) Outer w → (Acquire 0 0 ≡ w) ⊎ (Close 0 Succeeded ≡ w)
two a b w n = ⊎_elim (λ e. inl (ap (λ (x : Event). x.what) (sym e) ∙ n.3)) (λ m. ⊎_elim (λ e. inr (ap (λ (x : Event). x.what) (sym e) ∙ n.3)) (λ m. absurd (among_nil m)) (among_cons m)) (among_cons n.1)

no_lease : (a b j s : ℕ) → Notes (event a (Acquire 0 0) ∷ event b (Close 0 Succeeded) ∷ []) Outer (Lease j s) → ⊥
no_lease a b j s n = ⊎_elim (λ e. cc) (λ e. cc) (two a b (Lease j s) n)

-- the close hands the row over, since no Lease covers it
pub closes_mine : (a b : ℕ) (left : Left) (w : View ℕ) → ClosesRow (closed a b) 0 left w → w ≡ mine a b
closes_mine a b Stays w c = absurd (let t = covers_leased (closed a b).events c.3.1.0 0 Outer c.3.1.1.0 in no_lease a b c.3.1.0 t.0 t.1)
closes_mine a b Yours w c = c.2 ∙ ap (λ (p : ℕ). handed_over (shut (closed a b) 0 p) 0 p) (⊎_elim (λ e. ap (λ (x : ℕ × ℕ). x.1) e) (λ m. absurd (among_nil m)) (among_cons c.1))

abbrev pub first : View ℕ
first = start Outer 1 3 (2 ^ 32 - 1)

abbrev pub noting : View ℕ → ℕ → What → View ℕ
noting v n w = noted v (record { stamp = n; by = v.by; what = w })

-- what each call leaves
pub was_noted : (u v w : View ℕ) (n : ℕ) (x : What) → u ≡ w → v ≡ noting u n x → v ≡ noting w n x
was_noted u v w n x is e = e ∙ ap (λ (y : View ℕ). noting y n x) is

pub was_written : (a : ℕ) (u v w : View ℕ) → u ≡ acquired a → v ≡ placed u 0 7 → w ≡ paid v 0 8 → w ≡ written a
was_written a u v w is p q = q ∙ (ap (λ (y : View ℕ). paid y 0 8) p ∙ ap (λ (y : View ℕ). paid (placed y 0 7) 0 8) is)

pub was_mine : (a b : ℕ) (left : Left) (u v : View ℕ) → u ≡ closed a b → ClosesRow u 0 left v → v ≡ mine a b
was_mine a b left u v is c = closes_mine a b left v (subst (λ (y : View ℕ). ClosesRow y 0 left v) is c)

-- what each call asks
pub may_acquire : MayNote first (Acquire 0 0)
may_acquire = (here [], (λ h. among_nil h.2.1), (inl refl, (λ h. among_nil h.2.1.1)))

pub may_place : (a : ℕ) → CanPlace (acquired a) 0
may_place a = (here [], (0, (event a (Acquire 0 0), here [], refl, refl)))

pub may_write : (a : ℕ) (v w : View ℕ) → v ≡ acquired a → w ≡ placed v 0 7 → HasRow w.opened 0
may_write a v w is e = subst (λ (x : View ℕ). HasRow x.opened 0) (sym (e ∙ ap (λ (x : View ℕ). placed x 0 7) is)) (7, here [])

pub may_close : (a : ℕ) → MayNote (written a) (Close 0 Succeeded)
may_close a = (inl refl, λ h. ⊎_elim (λ e. apart (ap (λ (x : Event). x.what) (sym e) ∙ h.2.1.3) refl) (λ m. among_nil m) (among_cons h.2.1.1))

pub can_close : (a b : ℕ) → CanClose (closed a b) 0
can_close a b = ((8, here []), (0, (event a (Acquire 0 0), here _, refl, refl), (0, same 0, (Succeeded, (event b (Close 0 Succeeded), there _ (here []), refl, refl)))), λ j m. absurd (among_nil m))

pub can_take : (a b : ℕ) → CanTake (mine a b) 0
can_take a b = (here [], λ m. among_nil m)

pub may_final : (a b : ℕ) → MayNote (took (mine a b) 0) (Final 0 Succeeded true)
may_final a b = (here [], here [])

pub can_finish : (a b d : ℕ) → CanFinish (final a b d)
can_finish a b d = (refl, (refl, (λ r m. absurd (among_nil m)), refl, refl, refl, refl), refl)

-- the payload, and the events with their stamps
pub given_eight : (a b p : ℕ) → IsAmong (0, p) (mine a b).given → p ≡ 8
given_eight a b p m = ⊎_elim (λ e. ap (λ (x : ℕ × ℕ). x.1) e) (λ n. absurd (among_nil n)) (among_cons m)

abbrev pub life : ℕ → ℕ → ℕ → List Event
life a b d = event a (Acquire 0 0) ∷ event b (Close 0 Succeeded) ∷ event d (Final 0 Succeeded true) ∷ []

only_below : (n : ℕ) (e x : Event) → IsAmong x (e ∷ []) → n < e.stamp → n < x.stamp
only_below n e x m l = ⊎_elim (λ s. subst (λ (y : Event). n < y.stamp) (sym s) l) (λ o. absurd (among_nil o)) (among_cons m)

rises : (a b d : ℕ) → a < b → b < d → Rises (life a b d)
rises a b d l m = ((λ x h. ⊎_elim (λ s. subst (λ (y : Event). a < y.stamp) (sym s) l) (λ o. only_below a (event d (Final 0 Succeeded true)) x o (omega arith)) (among_cons h)), ((λ x h. only_below b (event d (Final 0 Succeeded true)) x h m), ((λ x h. absurd (among_nil h)), tt)))

pub is_life : (L : List Event) (a b d : ℕ) → IsStamped L → ((x : Event) → IsAmong x L ↔ IsAmong x (life a b d)) → IsFreshStamp (written a) b → IsFreshStamp (took (mine a b) 0) d → L ≡ life 0 1 2
is_life L a b d stamped both second third =
    let l : a < b = second.1 (event a (Acquire 0 0)) (here []) in let m : b < d = third.1 (event b (Close 0 Succeeded)) (there _ (here [])) in
    let is = rising_is L (life a b d) stamped (rises a b d l m) both in
    let x : a ≡ 0 = stamped [] (event b (Close 0 Succeeded) ∷ event d (Final 0 Succeeded true) ∷ []) (event a (Acquire 0 0)) is in
    let y : b ≡ 1 = stamped (event a (Acquire 0 0) ∷ []) (event d (Final 0 Succeeded true) ∷ []) (event b (Close 0 Succeeded)) is in
    let z : d ≡ 2 = stamped (event a (Acquire 0 0) ∷ event b (Close 0 Succeeded) ∷ []) [] (event d (Final 0 Succeeded true)) is in
    is ∙ (ap (λ n. life n b d) x ∙ (ap (λ n. life 0 n d) y ∙ ap (λ n. life 0 1 n) z))

-- a fresh seat with two rows
abbrev pub two_rows : View ℕ
two_rows = start Outer 2 3 (2 ^ 32 - 1)

outer_inner : (n : ℕ) → Outer ≢ Inner n
outer_inner n e = cc

pub may_split : CanSplit two_rows 1 1 2 1
may_split = (
  refl,
  outer_inner 1,
  (λ m. among_nil m),
  (λ r s. let a = s.0 in let b = s.1 in let e : r ≡ 1 = omega arith in (subst (λ n. IsAmong n two_rows.empty) (sym e) (there 0 (here [])), λ h. among_nil h.2.1)),
  omega arith,
  omega arith,
  (λ r m. absurd (among_nil m)),
)

pub root_usable : IsUsable two_rows.events two_rows.by 0
root_usable = (inl refl, λ h. among_nil h.2.1.1)
