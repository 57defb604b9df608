-- What the calls of a script leave.
use Rattle.std.proofs.Common.{◌≡◌, ◌≢◌, ℕ, ◌+◌, ◌≤◌, ◌⊎◌, [], ◌∷◌, length, refl, sym, ap, ◌∙◌, subst}
use Rattle.chunk_core.specs.Lists.{IsAmong}
use Rattle.chunk_core.specs.Lists.IsAmong.{here, there}
use Rattle.res_ledger.specs.declared.event.Event.{Event}
use Rattle.res_ledger.specs.declared.event.What.TheVariants.{Lease}
use Rattle.res_ledger.specs.declared.event.StreamNo.{StreamNo}
use Rattle.res_ledger.specs.declared.event.StreamNo.TheVariants.{Inner, Outer}
use Rattle.res_ledger.specs.Ledger.{IsClosed, IsLeased}
use Rattle.res_ledger.specs.Own.{leased_of, opens}
use Rattle.row_seat.specs.declared.view.View.{View}
use Rattle.row_seat.specs.Views.{HasRow, start}
use Rattle.scope_tree.specs.Calls.{AcquiresRow, AtStart, IsOpenScope, OpensScope, Seen}
use Rattle.tree_scripts.specs.Scripts.{IsThree, at_first, three, after_acquire, after_open}
use Rattle.tree_scripts.specs.Waiting.{IsAlone}
use Rattle.scope_tree.specs.Trace.{trace}
use Rattle.scope_tree.proofs.Use.{all_open, first_is as first_open_is, seen_is}
use Rattle.chunk_core.proofs.Members.{among_nil}
use Rattle.chunk_core.proofs.Each.{among_each}

outer_inner : (j : ℕ) → Outer ≡ Inner j → ⊥
outer_inner j e = cc

pub no_lease : (j s : ℕ) → leased_of (Lease j s) ≡ [] → ⊥
no_lease j s e = absurd (let f : (j, s) ∷ [] ≡ [] = e in cc)

module _ {P : Type 0} where
  pub script_start : (v : View P) (by : StreamNo) (rows events splits : ℕ) → 1 ≤ events → v ≡ start by rows events splits → AtStart v
  script_start v by rows events splits one e = subst AtStart (sym e) (record { events = refl; opened = refl; handed = refl; taken = refl; bare = λ j r m. absurd (among_nil m); leased = λ j r m. absurd (among_nil m); spare = one })

  pub first_is : {a : Seen P} {v : View P} {m n splits : ℕ} → a ≡ record { seat = v; shelf = []; scopes = m; rows = n } → v ≡ start Outer 3 16 splits → m ≡ 4 → n ≡ 3 → a ≡ at_first splits
  first_is {v = v} {m = m} {n = n} {splits = splits} e s x y =
      e ∙ ap (λ i. let z : Seen P = record { seat = i; shelf = []; scopes = m; rows = n } in z) s
      ∙ ap (λ i. let z : Seen P = record { seat = start Outer 3 16 splits; shelf = []; scopes = i; rows = n } in z) x ∙ ap (λ i. let z : Seen P = record { seat = start Outer 3 16 splits; shelf = []; scopes = 4; rows = i } in z) y

  pub acquires_is : {a b : Seen P} {s r : ℕ} {p : P} (A : Seen P) → a ≡ A → (o : AcquiresRow a s r p b) → b ≡ after_acquire A r s o.stamp p
  acquires_is {a = a} {b = b} {s = s} {r = r} {p = p} A e o = seen_is a b _ o.seat o.shelf o.scopes o.rows ∙ ap (λ x. after_acquire x r s o.stamp p) e

  pub opens_is : {a b : Seen P} {at c : ℕ} (A : Seen P) → a ≡ A → ¬ (IsClosed A.seat.events A.seat.by at) → (o : OpensScope a at c b) → b ≡ after_open A (length (opens (trace A.seat)) + 1) at o.stamp
  opens_is {a = a} {b = b} {at = at} {c = c} A e n o =
      let q : o.parent ≡ at = first_open_is (subst (λ x. ¬ (IsClosed x.seat.events x.seat.by at)) (sym e) n) o.nearest in
      seen_is a b _ o.seat o.shelf o.scopes o.rows
      ∙ ap (λ i. after_open a i o.parent o.stamp) o.number ∙ ap (λ i. after_open a (length (opens (trace a.seat)) + 1) i o.stamp) q ∙ ap (λ x. after_open x (length (opens (trace x.seat)) + 1) at o.stamp) e

  module _ {a : Seen P} {p q r : P} (t : IsThree a p q r) where
    abbrev pub like : Seen P
    like = three p q r t.0 t.1 t.2 t.3 t.4 t.5

    pub three_alone : IsAlone a.seat
    three_alone = subst (λ x. IsAlone x.seat) (sym t.6) (record { main = refl; pairs = refl; kept = refl; out = refl; events = λ e m. among_each (λ (x : Event). x.by ≡ Outer) e like.seat.events (refl, (refl, (refl, (refl, (refl, tt))))) m })

    pub three_open : (s : ℕ) → (s ≡ 0) ⊎ ((z : ℕ) × IsAmong {A = ℕ × ℕ} (s, z) ((1, 0) ∷ (2, 1) ∷ [])) → IsOpenScope a s
    three_open s o = subst (λ x. IsOpenScope x s) (sym t.6) (all_open like.seat s refl o)

    pub three_unleased : (j : ℕ) → (a.seat.by ≢ Inner j) × ¬ (IsAmong j a.seat.had) × ¬ (IsLeased a.seat.events j)
    three_unleased j = subst (λ x. (x.seat.by ≢ Inner j) × ¬ (IsAmong j x.seat.had) × ¬ (IsLeased x.seat.events j)) (sym t.6) (
      outer_inner j,
      among_nil,
      λ x. no_lease j x.1 (subst (λ w. leased_of w ≡ []) x.2.3 (among_each (λ (y : Event). leased_of y.what ≡ []) x.2.0 like.seat.events (refl, (refl, (refl, (refl, (refl, tt))))) x.2.1)),
    )

    pub three_has : HasRow a.seat.opened 1
    three_has = (q, subst (λ x. IsAmong (1, q) x.seat.opened) (sym t.6) (let first : ℕ × P = (0, p) in let third : ℕ × P = (2, r) in there first (here (third ∷ []))))
