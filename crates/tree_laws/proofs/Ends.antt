-- The ledger of a tree whose root is closed.
use Rattle.std.proofs.Common.{◌≡◌, ℕ, Bool, List, [], ◌∷◌, ◌++◌, true, reverse, refl, sym, subst}
use Rattle.chunk_core.specs.declared.code.Exit.{Exit}
use Rattle.chunk_core.specs.Lists.{IsAmong, has}
use Rattle.chunk_core.specs.Lists.IsAmong.{here}
use Rattle.chunk_core.proofs.Members.{among_mid}
use Rattle.res_ledger.specs.declared.event.Event.{Event}
use Rattle.res_ledger.specs.declared.event.StreamNo.{StreamNo}
use Rattle.res_ledger.specs.declared.event.What.{What}
use Rattle.res_ledger.specs.declared.event.What.TheVariants.{Acquire, Lease, Open}
use Rattle.res_ledger.specs.Ledger.{Notes}
use Rattle.res_ledger.specs.Order.{IsInBlocks, IsInOrder, covered, covered_by}
use Rattle.res_ledger.specs.Order.IsInBlocks.{none}
use Rattle.res_ledger.specs.Own.{own}
use Rattle.res_ledger.specs.Streams.{by_stream}
use Rattle.res_ledger.proofs.Ledgers.{closed_map, noted_own}
use Rattle.res_ledger.proofs.Noted.{only, own_notes}
use Rattle.row_seat.specs.declared.view.View.{View}
use Rattle.scope_tree.specs.Calls.{AtStart, Cancels, IsClosedScope, Leases, Seen}
use Rattle.scope_tree.proofs.Tidy.{tidy_in_order}
use Rattle.tree_laws.specs.Called.{Called, MayCancel, MayLease}
use Rattle.tree_laws.specs.Called.Called.{cancelled, leased}
use Rattle.tree_laws.specs.Ends.{AreCovered, IsFinishedLedger}
use Rattle.tree_laws.specs.Laws.{WholeForEach}
use Rattle.tree_laws.specs.Lent.{Lent}
use Rattle.tree_laws.proofs.Covered.{lent_covered}
use Rattle.tree_laws.specs.Whole.{IsCompleteFor, IsWholeFor}
use Rattle.tree_laws.proofs.Along.{called_tidy}
use Rattle.tree_laws.proofs.Complete.{complete_for}
use Rattle.tree_laws.proofs.Follows.{called_then}
use Rattle.tree_laws.proofs.Kept.{called_rises, leases_lent, lent_stays}
use Rattle.tree_laws.proofs.Rising.{stamped_by}

module _ {P : Type 0} {ends : P → Exit → Bool → P → Type 0} {a b : Seen P} {Cs : List (ℕ × List ℕ)} (u : View P) (L : List Event) (start : AtStart a.seat) (calls : Called ends a Cs b) (end : IsFinishedLedger b u L) where
  pub called_events : by_stream b.seat.by L ≡ by_stream b.seat.by b.seat.events
  called_events = stamped_by L b.seat.events b.seat.by end.ledger.stamped (called_rises start calls) (λ e k. ((λ m. (end.own e k).0 ((end.ledger.whole e).0 m)), (λ m. (end.ledger.whole e).1 ((end.own e k).1 m))))

  pub own_leases_covered : ((j : ℕ) (T : List ℕ) → IsAmong (j, T) Cs → Lent b.seat j T) → AreCovered L Cs
  own_leases_covered lent j T m = lent_covered b.seat L j T (lent j T m) end.ledger.legal called_events

  pub called_in_order : AreCovered L Cs → IsInOrder L b.seat.by
  called_in_order covered = tidy_in_order b.seat Cs L (called_tidy start calls) end.ledger.legal called_events covered

  pub called_complete : IsClosedScope b 0 → IsCompleteFor L b.seat.by
  called_complete root =
      complete_for L b.seat.by end.ledger.legal
      (closed_map b.seat.events L b.seat.by (noted_own b.seat.by b.seat.events L (sym called_events)) 0 root)
      (λ r s n. end.ledger.ended r (b.seat.by, s, n))
      (λ j s n. end.ledger.canceled j (b.seat.by, s, n))

  pub called_whole : IsClosedScope b 0 → AreCovered L Cs → IsWholeFor L b.seat.by
  called_whole root covered = record { legal = end.ledger.legal; order = called_in_order covered; complete = called_complete root }

-- a lease that the tree made and cancelled
pub one_lease_whole : {P : Type 0} {ends : P → Exit → Bool → P → Type 0} {a b c d e f : Seen P} {s j : ℕ} {T : List ℕ} {x : Exit} (u : View P) (L : List Event) → AtStart a.seat → Called ends a [] b → MayLease b s j → Leases b s j T c → Called ends c [] d → MayCancel d j T → Cancels ends d j T x e → Called ends e [] f → IsFinishedLedger f u L → IsClosedScope f 0 → IsWholeFor L f.seat.by
one_lease_whole {b = b} {c = c} {d = d} {e = e} {f = f} {s = s} {j = j} {T = T} {x = x} u L start first may lease then may' cancel last end root =
    let calls = called_then (cancelled d e j T x (called_then (leased b c s j T first may lease) then) may' cancel) last in
    let lent : Lent f.seat j T = lent_stays (called_then (cancelled d e j T x then may' cancel) last) (leases_lent lease) in
    called_whole u L start calls end root (own_leases_covered u L start calls end (λ i U m. (let p : ℕ × List ℕ = (i, U) in let y : ℕ × List ℕ = (j, T) in let q = only p y m in subst (λ (z : ℕ × List ℕ). Lent f.seat z.0 z.1) (sym q) lent)))

-- a stream that noted nothing is in order
in_order_at : (L : List Event) (k : StreamNo) (E : List What) → own k L ≡ E → ((e : Event) → IsAmong e L → IsInOrder L e.by) → IsInOrder L k
in_order_at L k [] is f = subst (λ l. IsInBlocks (λ r. has r (covered L) ≡ true) (λ j. reverse (covered_by L j)) [] l) (sym is) (none [])
in_order_at L k (w ∷ E) is f = let n = own_notes L k w (subst (λ l. IsAmong w l) (sym is) (here E)) in subst (λ q. IsInOrder L q) n.2 (f n.0 n.1)

pub whole_each : WholeForEach
whole_each L f =
    let by : (k : StreamNo) (w : What) → Notes L k w → IsCompleteFor L k = λ k w n. subst (λ q. IsCompleteFor L q) n.2 (f n.0 n.1).complete in
    let at : (A B : List Event) (e : Event) → L ≡ A ++ e ∷ B → IsCompleteFor L e.by = λ A B e is. (f e (subst (λ l. IsAmong e l) (sym is) (among_mid A B e))).complete in (
      record {
        finalized_once = λ k r s n. (by k (Acquire r s) n).finalized_once r s n;
        after_close = λ A B e r x ok is w. (at A B e is).after_close A B e r x ok is refl w;
        after_leases = λ A B e r x ok is w. (at A B e is).after_leases A B e r x ok is refl w;
        canceled_once = λ k j s n. (by k (Lease j s) n).canceled_once j s n;
        scopes_closed = λ k s p n. (by k (Open s p) n).scopes_closed s p n;
        roots_closed = λ k r s n. (by k (Acquire r s) n).roots_closed r s n;
      },
      λ k. in_order_at L k (own k L) refl (λ e m. (f e m).order),
    )
