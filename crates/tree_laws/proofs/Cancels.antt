-- What a cancellation notes, and that each stays noted.
use Rattle.std.proofs.Common.{ℕ, Bool, List, [], ◌∷◌, ◌++◌, inl, inr, refl, sym, ap, ◌∙◌, subst, ⊎_elim}
use Rattle.chunk_core.specs.declared.code.Exit.{Exit}
use Rattle.chunk_core.specs.Lists.{IsAmong}
use Rattle.chunk_core.proofs.Filters.{among_append}
use Rattle.chunk_core.proofs.Members.{among_last, among_nil, among_snoc}
use Rattle.res_ledger.specs.declared.event.Event.{Event}
use Rattle.res_ledger.specs.declared.event.What.{What}
use Rattle.res_ledger.specs.declared.event.What.TheVariants.{Cancel}
use Rattle.res_ledger.specs.Ledger.{Notes, NotesCancel}
use Rattle.res_ledger.specs.Own.{leased_of}
use Rattle.scope_tree.specs.Calls.{Cancels, Seen}
use Rattle.scope_tree.specs.Trace.{canceling}
use Rattle.scope_tree.proofs.Follows.{follows_mine}
use Rattle.scope_tree.proofs.Use.{cancel_follows}
use Rattle.tree_laws.specs.Alone.{HasNoMoreLeases}
use Rattle.tree_laws.specs.Called.{Called}
use Rattle.tree_laws.specs.Called.Called.{none, opened, acquired, written, leased, cancelled, closed, split, taken_in}
use Rattle.tree_laws.proofs.Along.{called_after}
use Rattle.tree_laws.proofs.Alone.{end_leaseless}
use Rattle.tree_laws.proofs.Kept.{events_stay}

module _ {P : Type 0} {ends : P → Exit → Bool → P → Type 0} where
  pub cancels_leaseless : {a b : Seen P} {j : ℕ} {T : List ℕ} {x : Exit} → Cancels ends a j T x b → HasNoMoreLeases a.seat.events b.seat.events
  cancels_leaseless {a = a} {j = j} {x = x} c e m =
      let f = cancel_follows c in
      let y = canceling a.seat j x c.stamp in
      ⊎_elim
      (λ o. ⊎_elim (λ i. inl i) (λ i. inr (ap (λ (z : Event). leased_of z.what) i)) (among_snoc a.seat.events e y o))
      (λ i. inr (end_leaseless e.what (f.events.2 e i).1))
      (among_append e (a.seat.events ++ y ∷ []) f.events.0 (subst (λ l. IsAmong e l) f.events.1 m))

  pub noted_stays : {a b : Seen P} {Cs : List (ℕ × List ℕ)} {w : What} → Called ends a Cs b → Notes a.seat.events a.seat.by w → Notes b.seat.events b.seat.by w
  noted_stays k n = (n.0, events_stay k n.0 n.1, n.2 ∙ sym (called_after k).by, n.3)

  cancel_noted : {a b : Seen P} {j : ℕ} {T : List ℕ} {x : Exit} → Cancels ends a j T x b → Notes b.seat.events b.seat.by (Cancel j x)
  cancel_noted {a = a} {j = j} {x = x} c = follows_mine (cancel_follows c) (canceling a.seat j x c.stamp, among_last a.seat.events (canceling a.seat j x c.stamp), refl, refl)

  cancel_stays : {a b : Seen P} {Cs : List (ℕ × List ℕ)} {j : ℕ} → Called ends a Cs b → NotesCancel a.seat.events a.seat.by j → NotesCancel b.seat.events b.seat.by j
  cancel_stays k n = (n.0, noted_stays k n.1)

  pub called_cancel : {a b : Seen P} {Cs : List (ℕ × List ℕ)} (j : ℕ) (T : List ℕ) → Called ends a Cs b → IsAmong (j, T) Cs → NotesCancel b.seat.events b.seat.by j
  called_cancel j T none m = absurd (among_nil m)
  called_cancel j T (opened b c at s k m o) i = cancel_stays (opened b c at s none m o) (called_cancel j T k i)
  called_cancel j T (acquired b c s r p k m o) i = cancel_stays (acquired b c s r p none m o) (called_cancel j T k i)
  called_cancel j T (written b c r p k m o) i = cancel_stays (written b c r p none m o) (called_cancel j T k i)
  called_cancel j T (leased b c s q U k m o) i = cancel_stays (leased b c s q U none m o) (called_cancel j T k i)
  called_cancel j T (cancelled {Cs = Cs} b c q U x k m o) i =
      let one : Called ends b ([] ++ (q, U) ∷ []) c = cancelled b c q U x none m o in
      ⊎_elim
      (λ n. cancel_stays one (called_cancel j T k n))
      (λ e. subst (λ z. NotesCancel c.seat.events c.seat.by z) (sym (ap (λ (z : ℕ × List ℕ). z.0) e)) (x, cancel_noted o))
      (among_snoc Cs (j, T) (q, U) i)
  called_cancel j T (closed b c s x k m o) i = cancel_stays (closed b c s x none m o) (called_cancel j T k i)
  called_cancel j T (split b c q from to n k m o) i = cancel_stays (split b c q from to n none m o) (called_cancel j T k i)
  called_cancel j T (taken_in b c w k m p o) i = cancel_stays (taken_in b c w none m p o) (called_cancel j T k i)
