-- A root with two rows that was leased, closed and let go.
use Rattle.std.proofs.Common.{◌≡◌, ℕ, ◌+◌, ◌≤◌, Bool, List, [], ◌∷◌, length, refl, sym, ap, ◌∙◌, subst, arith, reverse}
use Rattle.chunk_core.specs.declared.code.Exit.{Exit}
use Rattle.chunk_core.specs.declared.code.Exit.TheVariants.{Succeeded}
use Rattle.chunk_core.specs.Lists.{IsAmong}
use Rattle.chunk_core.proofs.Reversed.{among_reverse}
use Rattle.res_ledger.specs.declared.event.Event.{Event}
use Rattle.res_ledger.specs.declared.event.StreamNo.TheVariants.{Outer}
use Rattle.res_ledger.specs.declared.event.What.TheVariants.{Acquire, Cancel, Close, Lease, Open}
use Rattle.res_ledger.specs.Ledger.{stamped}
use Rattle.res_ledger.specs.Order.{finals}
use Rattle.res_ledger.specs.Own.{leased_rows, teardown}
use Rattle.res_ledger.specs.Rising.{Rises}
use Rattle.res_ledger.specs.Streams.{by_stream}
use Rattle.row_seat.specs.Views.{IsLedgerOf}
use Rattle.scope_tree.specs.Calls.{Cancels, ClosesScope, Leases, Seen}
use Rattle.scope_tree.specs.Released.{away, said}
use Rattle.scope_tree.specs.Rights.{HasNoLeaseBut, IsSameSeat}
use Rattle.scope_tree.specs.Trace.{owed}
use Rattle.scope_tree.proofs.Lists.{away_le}
use Rattle.scope_tree.proofs.Use.{cancel_ends, none_owed}
use Rattle.tree_scripts.specs.Short.{HasTwoRows, IsLeasedAndCanceled}
use Rattle.tree_scripts.specs.Waiting.{noted_by}
use Rattle.tree_scripts.proofs.Telling.{Tells, cancel_tells, close_tells, close_waits, lease_tells, ledger_tells, two_ended}

module _ {P : Type 0} {p q : P} {a m : Seen P} {T : List ℕ} (h : HasTwoRows p q a) where
  covers_two : Leases a 0 7 T m → T ≡ 0 ∷ 1 ∷ []
  covers_two o = o.covered ∙ ap (λ E. leased_rows E 0) h.trace_is

  -- once the root is closed there is room for the end of the lease
  pub cancel_free : {ends : P → Exit → Bool → P → Type 0} {b : Seen P} → Leases a 0 7 T m → owed m.seat ≡ owed a.seat → ClosesScope ends m 0 Succeeded b → m.seat.spare + owed b.seat ≤ b.seat.spare + owed m.seat → owed b.seat ≡ 0 → owed b.seat + 1 + away T b.seat.opened ≤ b.seat.spare
  cancel_free {b = b} o e k f z =
      let l = away_le T b.seat.opened in let n = ap length (covers_two o) in let s = ap (λ v. v.spare) o.seat in let r = h.spare in omega (l, n, s, r, e, f, z, arith)

  pub leased_and_canceled : {ends : P → Exit → Bool → P → Type 0} {b d : Seen P} {j : ℕ} {L : List Event} → j ≡ 7 → Leases a 0 7 T m → IsSameSeat a.seat m.seat → ((r : ℕ) → IsAmong r T → IsAmong (j, r) m.seat.pairs) → ClosesScope ends m 0 Succeeded b → IsSameSeat m.seat b.seat → owed b.seat ≡ 0
      → HasNoLeaseBut b.seat ((j, T) ∷ []) → Cancels ends b j T Succeeded d → IsLedgerOf d.seat L → Rises (by_stream d.seat.by d.seat.events) → IsLeasedAndCanceled Succeeded L
  leased_and_canceled {b = b} {d = d} {j = j} {L = L} e o sm pairs k sb none only q is rises =
      let t3 : Tells Outer (Open 1 0 ∷ Acquire 0 0 ∷ Acquire 1 1 ∷ []) a.seat = record { by = h.by; said = h.trace_is; alone = h.events } in
      let t4 = lease_tells t3 o in let rows = covers_two o in let main = sm.main ∙ h.main in let out = sm.out ∙ h.out in
      let waits = close_waits k out (λ r i. (j, pairs r (subst (λ l. IsAmong r l) (sym rows) (among_reverse r (0 ∷ 1 ∷ []) (subst (λ l. IsAmong r l) (ap (λ E. teardown E 0) t4.said) i))))) in
      let t5 = subst (λ fs. Tells Outer (Open 1 0 ∷ Acquire 0 0 ∷ Acquire 1 1 ∷ Lease 7 0 ∷ Close 0 Succeeded ∷ finals Succeeded fs) b.seat) waits (close_tells t4 k) in
      let ended = two_ended (said q.left.0) 1 0 (cancel_ends q (sb.main ∙ main) (sb.out ∙ out) only (none_owed b.seat none) ∙ ap reverse rows) in
      record {
        low = ended.0;
        upper = ended.1;
        ledger = ledger_tells L (cancel_tells t5 q) refl is rises
            ∙ ap (λ i. stamped 0 (noted_by Outer (Open 1 0 ∷ Acquire 0 0 ∷ Acquire 1 1 ∷ Lease 7 0 ∷ Close 0 Succeeded ∷ Cancel i Succeeded ∷ finals Succeeded (said q.left.0)))) e
            ∙ ap (λ fs. stamped 0 (noted_by Outer (Open 1 0 ∷ Acquire 0 0 ∷ Acquire 1 1 ∷ Lease 7 0 ∷ Close 0 Succeeded ∷ Cancel 7 Succeeded ∷ finals Succeeded fs))) ended.2;
      }
