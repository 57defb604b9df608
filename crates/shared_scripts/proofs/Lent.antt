-- A main seat that leases its one row, call by call.
use Rattle.std.proofs.Common.{◌≡◌, ℕ, ◌≤◌, ◌↔◌, List, [], ◌∷◌, inl, inr, refl, sym, ap, ◌∙◌, subst, ⊎_elim, arith, lit≤}
use Rattle.chunk_core.specs.Lists.{IsAmong}
use Rattle.chunk_core.specs.Lists.IsAmong.{here, there}
use Rattle.chunk_core.proofs.Members.{among_cons, among_nil}
use Rattle.res_ledger.specs.declared.event.Event.{Event}
use Rattle.res_ledger.specs.declared.event.What.TheVariants.{Acquire, Lease}
use Rattle.res_ledger.specs.declared.event.StreamNo.TheVariants.{Outer}
use Rattle.res_ledger.specs.Ledger.{IsClosed, IsCoveredBy, IsLeased}
use Rattle.res_ledger.proofs.Apart.{apart}
use Rattle.res_ledger.proofs.Ledgers.{acquire_row}
use Rattle.res_ledger.specs.Ledger.LiesWithin.{same}
use Rattle.row_seat.specs.declared.view.View.{View}
use Rattle.row_seat.specs.Views.{CanLease, CanPlace, CanSplit, MayNote, leased, noted, placed, split_main, split_off, start}
use Rattle.shared_scripts.specs.Races.{IsLessee, IsOwner}
use Rattle.shared_scripts.proofs.Racing.{event, outer_inner}

abbrev acquire : ℕ → Event
acquire n = record { stamp = n; by = Outer; what = Acquire 0 0 }

abbrev lease_event : ℕ → Event
lease_event k = record { stamp = k; by = Outer; what = Lease 1 0 }

none_leased : (n : ℕ) → ¬ (IsLeased (acquire n ∷ []) 1)
none_leased n a = ⊎_elim (λ e. apart (sym (ap (λ (x : Event). x.what) e) ∙ a.2.3) refl) (λ m. among_nil m) (among_cons a.2.1)

none_closed : (n s : ℕ) → ¬ (IsClosed (acquire n ∷ []) Outer s)
none_closed n s c = ⊎_elim (λ e. apart (sym (ap (λ (x : Event). x.what) e) ∙ c.2.1.3) refl) (λ m. among_nil m) (among_cons c.2.1.1)

still_open : (n k s : ℕ) → ¬ (IsClosed (acquire n ∷ lease_event k ∷ []) Outer s)
still_open n k s c = ⊎_elim
    (λ e. apart (sym (ap (λ (x : Event). x.what) e) ∙ c.2.1.3) refl)
    (λ m. ⊎_elim (λ e. apart (sym (ap (λ (x : Event). x.what) e) ∙ c.2.1.3) refl) (λ z. among_nil z) (among_cons m))
    (among_cons c.2.1.1)

abbrev one_pair : List (ℕ × ℕ)
one_pair = (1, 0) ∷ []

covers : (n r : ℕ) → (let x : ℕ × ℕ = (1, r) in IsAmong x one_pair) ↔ IsCoveredBy (acquire n ∷ []) Outer 0 r
covers n r = (
  (λ m. ⊎_elim (λ e. subst (λ (q : ℕ). IsCoveredBy (acquire n ∷ []) Outer 0 q) (sym (ap (λ (x : ℕ × ℕ). x.1) e)) (0, (acquire n, here [], refl, refl), inr (same 0), none_closed n 0)) (λ z. absurd (among_nil z)) (among_cons m)),
  (λ c. ⊎_elim (λ e. subst (λ (q : ℕ). let x : ℕ × ℕ = (1, q) in IsAmong x one_pair) (acquire_row 0 0 r c.0 (sym (ap (λ (x : Event). x.what) e) ∙ c.1.3)) (here [])) (λ z. absurd (among_nil z)) (among_cons c.1.1)),
)

module _ {P : Type 0} where
  abbrev pub first : ℕ → View P
  first q = start Outer 1 8 q

  abbrev pub acquired : ℕ → ℕ → View P
  acquired q n = noted (first q) (event (first q) n (Acquire 0 0))

  abbrev pub opened : ℕ → ℕ → P → View P
  opened q n p = placed (acquired q n) 0 p

  abbrev pub paired : ℕ → ℕ → P → View P
  paired q n p = leased (opened q n p) 1 0

  abbrev pub lent : ℕ → ℕ → P → ℕ → View P
  lent q n p k = noted (paired q n p) (event (paired q n p) k (Lease 1 0))

  pub may_acquire : (v : View P) (q : ℕ) → v ≡ first q → MayNote v (Acquire 0 0) × (1 ≤ v.spare)
  may_acquire v q e = subst (λ z. MayNote z (Acquire 0 0) × (1 ≤ z.spare)) (sym e) ((here [], (λ a. among_nil a.2.1), (inl refl, λ c. among_nil c.2.1.1)), lit≤ tt)

  pub may_place : (v : View P) (q n : ℕ) → v ≡ acquired q n → CanPlace v 0
  may_place v q n e = subst (λ z. CanPlace z 0) (sym e) (here [], (0, (acquire n, here [], refl, refl)))

  pub may_lease : (v : View P) (q n : ℕ) (p : P) → v ≡ opened q n p → CanLease v 1 0
  may_lease v q n p e = subst (λ z. CanLease z 1 0) (sym e) (refl, (p, here []), (λ m. among_nil m), outer_inner 1, (λ m. among_nil m), none_leased n)

  pub may_note : (v : View P) (q n : ℕ) (p : P) → v ≡ paired q n p → MayNote v (Lease 1 0) × (1 ≤ v.spare)
  may_note v q n p e = subst (λ z. MayNote z (Lease 1 0) × (1 ≤ z.spare)) (sym e) ((refl, outer_inner 1, (λ m. among_nil m), none_leased n, (inl refl, none_closed n 0), covers n), lit≤ tt)

  pub may_split : (v : View P) (q n : ℕ) (p : P) (k : ℕ) → v ≡ lent q n p k → 1 ≤ q → CanSplit v 1 0 0 2
  may_split v q n p k e one = subst (λ z. CanSplit z 1 0 0 2) (sym e) (refl, outer_inner 1, (λ m. among_nil m), (λ r w. let a = w.1 in absurd (omega arith)), lit≤ tt, one, λ r m. (Outer, 0, (lease_event k, there (acquire n) (here []), refl, refl)))

  pub owner_is : (v : View P) (q n : ℕ) (p : P) (k : ℕ) → v ≡ split_main (lent q n p k) 1 0 0 2 → IsOwner v
  owner_is v q n p k e = subst (λ z. IsOwner z) (sym e) (record {
    main = refl;
    by = refl;
    empty = refl;
    pay = p;
    opened = refl;
    pairs = refl;
    kept = refl;
    handed = refl;
    taken = refl;
    out = refl;
    spare = lit≤ tt;
    acquired = (acquire n, here (lease_event k ∷ []), refl, refl);
    usable = (inl refl, still_open n k 0);
  })

  pub lessee_is : (v : View P) (q n : ℕ) (p : P) (k : ℕ) → v ≡ split_off (lent q n p k) 1 0 0 2 → IsLessee v
  lessee_is v q n p k e = subst (λ z. IsLessee z) (sym e) (record { by = refl; empty = refl; opened = refl; pairs = refl; kept = refl; handed = refl; taken = refl; events = refl; spare = lit≤ tt })
