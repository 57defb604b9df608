-- Which rows a close ends.
use Rattle.std.proofs.Common.{◌≡◌, ℕ, Bool, true, false, cond, not, eqb, List, [], ◌∷◌, ◌++◌, refl, sym, ap, ◌∙◌, subst, ⊎_elim, eq-eqb}
use Rattle.chunk_core.specs.declared.code.Exit.{Exit}
use Rattle.chunk_core.specs.Lists.{IsAmong}
use Rattle.chunk_core.specs.Lists.IsAmong.{here, there}
use Rattle.chunk_core.proofs.Members.{among_nil}
use Rattle.chunk_core.proofs.Bools.{any_at, any_found}
use Rattle.res_ledger.specs.declared.event.Event.{Event}
use Rattle.res_ledger.specs.declared.event.StreamNo.{StreamNo}
use Rattle.res_ledger.specs.declared.event.What.{What}
use Rattle.res_ledger.specs.declared.event.What.TheVariants.{Close, Final}
use Rattle.res_ledger.specs.Ledger.{Covers}
use Rattle.res_ledger.specs.Order.{firsts}
use Rattle.res_ledger.specs.Own.{leased_of, teardown}
use Rattle.res_ledger.proofs.Ledgers.{covers_snoc}
use Rattle.row_seat.specs.declared.view.View.{View}
use Rattle.row_seat.specs.Views.{HasPair, MayStay, noted}
use Rattle.scope_tree.specs.declared.branch.Spent.{Spent}
use Rattle.scope_tree.specs.Calls.{ClosesScope, NoneStays, Seen}
use Rattle.scope_tree.specs.Released.{Released, said}
use Rattle.scope_tree.specs.Released.Holder.{owner}
use Rattle.scope_tree.specs.Released.Released.{done, stays, ends_so}
use Rattle.scope_tree.specs.Rows.{has_lease, unleased}
use Rattle.scope_tree.specs.Trace.{trace}
use Rattle.scope_tree.proofs.Beneath.{not_true', shut_not}
use Rattle.scope_tree.proofs.Parts.{eqb_eq}
use Rattle.scope_tree.proofs.Rights.{lease_apart}

-- an event that is no Lease covers nothing
covers_before : (L : List Event) (e : Event) (j r : ℕ) (k : StreamNo) → leased_of e.what ≡ [] → Covers (L ++ e ∷ []) j k r → Covers L j k r
covers_before L e j r k n c = ⊎_elim (λ i. i) (λ q. absurd (lease_apart e.what j q.0 n q.2)) (covers_snoc L e j r k c)

pub unleased_none : (T : List ℕ) → unleased [] T ≡ T
unleased_none [] = refl
unleased_none (r ∷ T) = ap (λ l. r ∷ l) (unleased_none T)

module _ {P : Type 0} where
  pub leased_on : (v : View P) (r : ℕ) → HasPair v r → has_lease v.pairs r ≡ true
  leased_on v r h = any_at (λ (x : ℕ × ℕ). eqb x.1 r) (h.0, r) v.pairs h.1 (eq-eqb r r refl)

  leased_off : (v : View P) (r : ℕ) → ¬ (HasPair v r) → has_lease v.pairs r ≡ false
  leased_off v r n = not_true' (has_lease v.pairs r) (λ h.
      let t = any_found (λ (x : ℕ × ℕ). eqb x.1 r) v.pairs h in
      n (t.0.0, subst (λ z. IsAmong (t.0.0, z) v.pairs) (eqb_eq t.0.1 r t.2) t.1))

  -- what may stay behind an event that is no Lease could before
  stays_before : (v : View P) (n r : ℕ) (u : What) → leased_of u ≡ [] → MayStay (noted v (record { stamp = n; by = v.by; what = u })) r → MayStay v r
  stays_before v n r u none m = (m.0, (m.1.0, (covers_before v.events (record { stamp = n; by = v.by; what = u }) m.1.0 r v.by none m.1.1.0, m.1.1.1)))

  -- no row stays where nothing is leased
  pub none_leased : (v : View P) → v.pairs ≡ [] → v.out ≡ [] → (T : List ℕ) → NoneStays v T
  none_leased v p o T r m k = ⊎_elim (λ i. among_nil (subst (λ l. IsAmong (k.1.0, r) l) p i)) (λ i. among_nil (subst (λ l. IsAmong k.1.0 l) o i)) k.1.1.1

  pub none_inner : (v : View P) → v.main ≡ false → (T : List ℕ) → NoneStays v T
  none_inner v e T r m k = shut_not (sym k.0 ∙ e)

  module _ {ends : P → Exit → Bool → P → Type 0} {x : Exit} where
    -- where none may stay, all end
    pub owner_all : {T : List ℕ} {v w : View P} {ys : List (Spent P)} → Released ends x owner T v ys w → NoneStays v T → firsts (said ys) ≡ T
    owner_all (done v) h = refl
    owner_all (stays {T = T} v u r l t) h = absurd (h r (here T) l.3)
    owner_all (ends_so v u y n l f t) h = ap (λ z. y.row ∷ z) (owner_all t (λ r m k. h r (there y.row m) (subst (λ z. MayStay z r) l.2 (stays_before u n r (Final y.row x y.ok) refl k))))

    -- where no seat is out, those end on which no lease stands
    owner_unleased : {T : List ℕ} {v w : View P} {ys : List (Spent P)} → Released ends x owner T v ys w → v.out ≡ [] → firsts (said ys) ≡ unleased v.pairs T
    owner_unleased (done v) o = refl
    owner_unleased (stays {T = T} v u r l t) o =
        let on : HasPair v r = (l.3.1.0, ⊎_elim (λ i. i) (λ i. absurd (among_nil (subst (λ z. IsAmong l.3.1.0 z) o i))) l.3.1.1.1) in
        owner_unleased t (ap (λ z. z.out) l.2 ∙ o) ∙ ap (λ z. unleased z.pairs T) l.2 ∙ ap (λ b. cond (not b) (r ∷ unleased v.pairs T) (unleased v.pairs T)) (sym (leased_on v r on))
    owner_unleased (ends_so {T = T} v u y n l f t) o =
        ap (λ z. y.row ∷ z) (owner_unleased t (ap (λ z. z.out) l.2 ∙ o) ∙ ap (λ z. unleased z.pairs T) l.2)
        ∙ ap (λ b. cond (not b) (y.row ∷ unleased v.pairs T) (unleased v.pairs T)) (sym (leased_off v y.row l.3))

    module _ {a b : Seen P} {s : ℕ} (c : ClosesScope ends a s x b) where
      -- where no lease keeps one of them, the close ends all that it takes down
      pub close_all : NoneStays a.seat (teardown (trace a.seat) s) → firsts (said c.torn.0) ≡ teardown (trace a.seat) s
      close_all h = owner_all c.torn.2 (λ r m k. h r m (stays_before a.seat c.stamp r (Close s x) refl k))

      -- where no seat is out, it ends the rows on which no lease stands
      pub close_unleased : a.seat.out ≡ [] → firsts (said c.torn.0) ≡ unleased a.seat.pairs (teardown (trace a.seat) s)
      close_unleased o = owner_unleased c.torn.2 o
