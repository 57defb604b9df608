-- In which order streams leave.
use Rattle.std.proofs.Common.{◌≡◌, ℕ, ◌<◌, Bool, true, false, List, [], ◌∷◌, ◌++◌, refl, sym, ap, ◌∙◌, subst, ⊎_elim, arith}
use Rattle.chunk_core.specs.declared.code.Exit.{Exit}
use Rattle.chunk_core.specs.declared.code.Exit.TheVariants.{Succeeded}
use Rattle.chunk_core.specs.Lists.{IsAmong}
use Rattle.chunk_core.proofs.Filters.{among_append}
use Rattle.chunk_core.proofs.Members.{among_cons, among_last, among_left, among_nil}
use Rattle.res_ledger.specs.declared.event.Event.{Event}
use Rattle.res_ledger.specs.declared.event.StreamNo.{StreamNo}
use Rattle.res_ledger.specs.declared.event.What.{What}
use Rattle.res_ledger.specs.declared.event.What.TheVariants.{Acquire, Cancel, Close, Lease, Open}
use Rattle.res_ledger.specs.Ledger.{IsClosed, Notes, NotesClose}
use Rattle.res_ledger.specs.Order.{finals}
use Rattle.res_ledger.specs.Own.{own}
use Rattle.scope_tree.specs.Calls.{Seen}
use Rattle.scope_tree.specs.Released.{said}
use Rattle.scope_tree.specs.Trace.{canceling, trace}
use Rattle.scope_tree.proofs.Bridge.{noted_in, within_cases}
use Rattle.scope_tree.proofs.Follows.{is_end}
use Rattle.scope_tree.proofs.Parting.{join_trace}
use Rattle.scope_tree.proofs.Use.{acquired_said, cancel_follows, closed_said, leased_said, opened_said}
use Rattle.tree_laws.specs.Called.{Called}
use Rattle.tree_laws.specs.Called.Called.{none, opened, acquired, written, leased, cancelled, closed, split, taken_in}
use Rattle.tree_families.specs.Laws.{PartsLeaveLast}
use Rattle.tree_families.proofs.Noting.{follows_cases}

-- no Cancel and no Open of the root is among these
record IsCalm (E : List What) : Type 0 where
  cancels : (j : ℕ) (x : Exit) → ¬ (IsAmong (Cancel j x) E)
  opens : (q : ℕ) → ¬ (IsAmong (Open 0 q) E)

not_final : (w : What) (x : Exit) (fs : List (ℕ × Bool)) → is_end w ≡ false → ¬ (IsAmong w (finals x fs))
not_final w x [] e m = among_nil m
not_final w x (f ∷ fs) e m = ⊎_elim (λ i. let z : true ≡ false = sym (ap is_end i) ∙ e in cc) (λ i. not_final w x fs e i) (among_cons m)

-- with one event more, and a run of Finals
calm_run : (E F : List What) (w : What) (x : Exit) (fs : List (ℕ × Bool)) → F ≡ E ++ w ∷ finals x fs → ((j : ℕ) (z : Exit) → Cancel j z ≡ w → ⊥) → ((q : ℕ) → Open 0 q ≡ w → ⊥) → IsCalm E → IsCalm F
calm_run E F w x fs is c o h = record {
  cancels = λ j z m. ⊎_elim (λ i. h.cancels j z i) (λ i. ⊎_elim (λ e. c j z e) (λ k. not_final (Cancel j z) x fs refl k) (among_cons i)) (among_append (Cancel j z) E (w ∷ finals x fs) (subst (λ l. IsAmong (Cancel j z) l) is m));
  opens = λ q m. ⊎_elim (λ i. h.opens q i) (λ i. ⊎_elim (λ e. o q e) (λ k. not_final (Open 0 q) x fs refl k) (among_cons i)) (among_append (Open 0 q) E (w ∷ finals x fs) (subst (λ l. IsAmong (Open 0 q) l) is m));
}

open_scope : (a b p q : ℕ) → Open a p ≡ Open b q → a ≡ b
open_scope a b p q e = cc

-- a closed root has a Close of its own, where it wasn't opened below another scope
root_close : (L : List Event) (k : StreamNo) → ((q : ℕ) → ¬ (Notes L k (Open 0 q))) → IsClosed L k 0 → NotesClose L k 0
root_close L k n c = ⊎_elim
    (λ e. subst (λ z. NotesClose L k z) (sym e) c.2)
    (λ o. absurd (n o.0 o.1))
    (within_cases c.1)

module _ {P : Type 0} {ends : P → Exit → Bool → P → Type 0} where
  -- a tree that cancelled nothing noted no Cancel
  calm_along : {a b : Seen P} {Cs : List (ℕ × List ℕ)} → Cs ≡ [] → IsCalm (trace a.seat) → Called ends a Cs b → IsCalm (trace b.seat)
  calm_along e h none = h
  calm_along e h (opened b c at s k m o) = calm_run (trace b.seat) (trace c.seat) (Open s o.parent) Succeeded [] (opened_said o) (λ j z i. cc) (λ q i. let l = open_scope 0 s q o.parent i in let w = o.number in omega (l, w, arith)) (calm_along e h k)
  calm_along e h (acquired b c s r p k m o) = calm_run (trace b.seat) (trace c.seat) (Acquire r s) Succeeded [] (acquired_said o) (λ j z i. cc) (λ q i. cc) (calm_along e h k)
  calm_along e h (written b c r p k m o) = subst (λ (x : Seen P). IsCalm (trace x.seat)) (sym o) (calm_along e h k)
  calm_along e h (leased b c s j T k m o) = calm_run (trace b.seat) (trace c.seat) (Lease j s) Succeeded [] (leased_said o) (λ i z w. cc) (λ q i. cc) (calm_along e h k)
  calm_along e h (cancelled {Cs = Cs} b c j T x k m o) = absurd (among_nil (subst (λ l. IsAmong (j, T) l) e (among_last Cs (j, T))))
  calm_along e h (closed b c s x k m o) = calm_run (trace b.seat) (trace c.seat) (Close s x) x (said o.torn.0) (closed_said o) (λ j z i. cc) (λ q i. cc) (calm_along e h k)
  calm_along e h (split b c j from to n k m o) = subst (λ (x : Seen P). IsCalm (trace x.seat)) (sym o) (calm_along e h k)
  calm_along e h (taken_in b c w k m p o) = subst IsCalm (sym (ap (λ (x : Seen P). trace x.seat) o ∙ join_trace b.seat w p)) (calm_along e h k)

  pub parts_leave_last : PartsLeaveLast ends
  parts_leave_last a b y j T x start calls shut o =
      let v = b.seat in
      let calm : IsCalm (trace v) = calm_along refl (subst (λ L. IsCalm (own a.seat.by L)) (sym start.events) (record { cancels = λ i z m. among_nil m; opens = λ q m. among_nil m })) calls in
      let close : NotesClose v.events v.by 0 = root_close v.events v.by (λ q k. calm.opens q (noted_in v.by (Open 0 q) v.events k)) shut in
      let f = cancel_follows o in
      let c : Event = canceling v j x o.stamp in
      let by : y.seat.by ≡ v.by = ap (λ z. z.by) f.same in
      λ e i z m k w. ⊎_elim
      (λ q. absurd (calm.cancels i z (noted_in v.by (Cancel i z) v.events (e, q, k ∙ by, w))))
      (λ q. ⊎_elim
      (λ s.
      let n = close.1 in (
        close.0,
        (
          n.0,
          subst (λ l. IsAmong n.0 l) (sym f.events.1) (among_left f.events.0 (among_left (c ∷ []) n.1)),
          n.2 ∙ sym by,
          n.3,
          subst (λ t. n.0.stamp < t) (sym (ap (λ (u : Event). u.stamp) s)) (o.fresh.1 n.0 n.1),
        ),
      ))
      (λ s. let u : false ≡ true = ap is_end (sym w) ∙ s.1 in cc)
      q)
      (follows_cases v y.seat c f e m)
