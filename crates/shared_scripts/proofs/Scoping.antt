-- Scopes noted one by one.
use Rattle.std.proofs.Common.{◌≡◌, ◌≢◌, ℕ, ◌+◌, ◌-◌, ◌*◌, ◌≤◌, List, [], ◌∷◌, ◌++◌, inl, refl, sym, ap, ◌∙◌, ⊎_elim, arith}
use Rattle.std.proofs.lemmas.Bool.{cases_eq}
use Rattle.chunk_core.specs.Lists.IsAmong.{here}
use Rattle.chunk_core.proofs.Filters.{among_right}
use Rattle.res_ledger.specs.declared.event.StreamNo.TheVariants.{Inner, Outer}
use Rattle.chunk_core.proofs.Members.{among_last, among_left, among_nil, among_snoc}
use Rattle.res_ledger.specs.declared.event.Event.{Event}
use Rattle.res_ledger.specs.declared.event.StreamNo.{StreamNo}
use Rattle.res_ledger.specs.declared.event.What.TheVariants.{Open}
use Rattle.res_ledger.specs.Ledger.{Notes}
use Rattle.res_ledger.proofs.Apart.{apart}
use Rattle.row_seat.specs.declared.view.View.{View}
use Rattle.row_seat.specs.Views.{CanFinish, CanJoin, IsLedgerOf, MayNote, joined, noted, split_main, split_off, start}
use Rattle.shared_scripts.specs.Scopes.{HasScopes, after_scopes}

open_is : (s p t q : ℕ) → Open s p ≡ Open t q → s ≡ t
open_is s p t q e = cc

pub none_yet : (k : StreamNo) → HasScopes [] k 0
none_yet k = record { only = λ e m. absurd (among_nil m); each = λ s a b. absurd (omega arith) }

module _ {P : Type 0} (v : View P) (E : List Event) (n : ℕ) (h : HasScopes E v.by n) where
  pub may_open : MayNote (after_scopes v E n) (Open (n + 1) 0)
  may_open = (
    (λ e. omega arith),
    (λ o. let x = h.only o.1.0 o.1.1 in let e : x.0 ≡ n + 1 = open_is x.0 0 (n + 1) o.0 (sym x.2 ∙ o.1.3) in let l = x.1 in omega arith),
    (inl refl, λ c. let x = h.only c.2.1.0 c.2.1.1 in apart (sym x.2 ∙ c.2.1.3) refl),
  )

  pub one_more : (stamp : ℕ) → let e : Event = record { stamp = stamp; by = v.by; what = Open (n + 1) 0 } in HasScopes (E ++ e ∷ []) v.by (n + 1)
  one_more stamp = let e : Event = record { stamp = stamp; by = v.by; what = Open (n + 1) 0 } in record {
    only = λ x m. ⊎_elim (λ o. let t = h.only x o in let l = t.1 in (t.0, omega arith, t.2)) (λ is. (n + 1, omega arith, ap (λ (y : Event). y.what) is)) (among_snoc E x e m);
    each = λ s a b. ⊎_elim (λ is. (e, among_last E e, refl, ap (λ (m : ℕ). Open m 0) (sym is))) (λ ne. let t = h.each s a (omega arith) in (t.0, among_left (e ∷ []) t.1, t.2, t.3)) (cases_eq s (n + 1));
  }

  pub noted_more : (w : View P) (stamp : ℕ) → (let e : Event = record { stamp = stamp; by = v.by; what = Open (n + 1) 0 } in w ≡ noted (after_scopes v E n) e) → (F : List Event) × (w ≡ after_scopes v F (n + 1)) × HasScopes F v.by (n + 1)
  noted_more w stamp is = let e : Event = record { stamp = stamp; by = v.by; what = Open (n + 1) 0 } in
      (E ++ e ∷ [], is ∙ ap (λ (m : ℕ). let z : View P = record v { events = E ++ e ∷ []; spare = m } in z) (let z : v.spare - n - 1 ≡ v.spare - (n + 1) = omega arith in z), one_more stamp)

pub at_first : {P : Type 0} (v : View P) → v.events ≡ [] → v ≡ after_scopes v [] 0
at_first {P} v e = ap (λ (L : List Event). let z : View P = record v { events = L } in z) e ∙ ap (λ (m : ℕ). let z : View P = record v { events = []; spare = m } in z) (let z : v.spare ≡ v.spare - 0 = omega arith in z)

module _ (n : ℕ) (E F : List Event) where
  abbrev pub start_view : View ℕ
  start_view = start Outer 0 (2 * n) 2

  abbrev pub parted_view : View ℕ
  parted_view = split_main (split_main start_view 1 0 0 n) 2 0 0 n

  abbrev pub one_view : View ℕ
  one_view = after_scopes (split_off start_view 1 0 0 n) E n

  abbrev pub two_view : View ℕ
  two_view = after_scopes (split_off (split_main start_view 1 0 0 n) 2 0 0 n) F n

  pub can_first : CanJoin parted_view one_view
  can_first = (refl, (1, refl, here (2 ∷ [])), (refl, (λ r m. absurd (among_nil m)), refl, refl, refl, refl))

  pub can_second : CanJoin (joined parted_view one_view) two_view
  can_second = (refl, (2, refl, here []), (refl, (λ r m. absurd (among_nil m)), refl, refl, refl, refl))

  abbrev pub end_view : View ℕ
  end_view = joined (joined parted_view one_view) two_view

  pub can_end : CanFinish end_view
  can_end = (refl, (refl, (λ r m. absurd (among_nil m)), refl, refl, refl, refl), refl)

  pub has_all : (L : List Event) → IsLedgerOf end_view L → HasScopes E (Inner 1) n → HasScopes F (Inner 2) n → (s : ℕ) → 1 ≤ s → s ≤ n → Notes L (Inner 1) (Open s 0) × Notes L (Inner 2) (Open s 0)
  has_all L l a b s p q = let x = a.each s p q in let y = b.each s p q in (
    (x.0, (l.whole x.0).1 (among_left F x.1), x.2, x.3),
    (y.0, (l.whole y.0).1 (among_right y.0 E F y.1), y.2, y.3),
  )

-- the views of the seats, step by step
pub main_is : (n : ℕ) (v w x : View ℕ) → v ≡ start Outer 0 (2 * n) 2 → w ≡ split_main v 1 0 0 n → x ≡ split_main w 2 0 0 n → x ≡ parted_view n [] []
main_is n v w x e f h = h ∙ (ap (λ (y : View ℕ). split_main y 2 0 0 n) f ∙ ap (λ (y : View ℕ). split_main (split_main y 1 0 0 n) 2 0 0 n) e)

pub one_is : (n : ℕ) (E : List Event) (v w x : View ℕ) → v ≡ start Outer 0 (2 * n) 2 → w ≡ split_off v 1 0 0 n → x ≡ after_scopes w E n → x ≡ one_view n E E
one_is n E v w x e f h = h ∙ (ap (λ (y : View ℕ). after_scopes y E n) f ∙ ap (λ (y : View ℕ). after_scopes (split_off y 1 0 0 n) E n) e)

pub two_is : (n : ℕ) (F : List Event) (v w u x : View ℕ) → v ≡ start Outer 0 (2 * n) 2 → w ≡ split_main v 1 0 0 n → u ≡ split_off w 2 0 0 n → x ≡ after_scopes u F n → x ≡ two_view n F F
two_is n F v w u x e f h k = k ∙ (ap (λ (y : View ℕ). after_scopes y F n) h ∙ (ap (λ (y : View ℕ). after_scopes (split_off y 2 0 0 n) F n) f ∙ ap (λ (y : View ℕ). after_scopes (split_off (split_main y 1 0 0 n) 2 0 0 n) F n) e))

pub joined_is : (v w x a b : View ℕ) → v ≡ a → w ≡ b → x ≡ joined v w → x ≡ joined a b
joined_is v w x a b e f h = h ∙ (ap (λ (y : View ℕ). joined y w) e ∙ ap (λ (y : View ℕ). joined a y) f)

pub outer_inner : (n : ℕ) → Outer ≢ Inner n
outer_inner n e = cc

pub inner_apart : Inner 2 ≢ Inner 1
inner_apart e = cc
