-- What calls leave of guests, rights and room.
use Rattle.std.proofs.Common.{◌≡◌, ℕ, Bool, List, ◌∷◌, refl, sym, ap, subst, ⊎_elim, arith}
use Rattle.chunk_core.specs.declared.code.Exit.{Exit}
use Rattle.chunk_core.specs.declared.code.Exit.TheVariants.{Canceled}
use Rattle.chunk_core.specs.Lists.{IsAmong}
use Rattle.chunk_core.specs.Lists.IsAmong.{here}
use Rattle.chunk_core.proofs.Members.{among_snoc}
use Rattle.res_ledger.specs.Ledger.{Notes}
use Rattle.res_ledger.specs.declared.event.What.TheVariants.{Acquire, Lease}
use Rattle.res_ledger.specs.Own.{rows}
use Rattle.scope_tree.specs.Calls.{Cancels, ClosesScope, IsOpenScope, Leases, Seen}
use Rattle.scope_tree.specs.Rows.{strangers}
use Rattle.scope_tree.specs.Trace.{own_rows, trace}
use Rattle.scope_tree.proofs.Bridge.{in_noted, in_rows}
use Rattle.scope_tree.proofs.Owed.{number_among}
use Rattle.scope_tree.proofs.Rooms.{strangers_none}
use Rattle.scope_tree.proofs.Use.{cancel_follows, close_follows, leased_said}
use Rattle.tree_laws.specs.Called.Called.{none, cancelled, closed, leased as lease_made}
use Rattle.tree_laws.proofs.Kept.{leases_lent, lent_own, lent_stays}
use Rattle.tree_laws.proofs.Owed.{owed_stays}
use Rattle.join_tree.specs.Mains.{IsMain}
use Rattle.join_tree.specs.Progress.{Progress}
use Rattle.join_tree.specs.Steps.{KeepsGuests, TakesEvents}
use Rattle.join_tree.proofs.Growing.{main_may_cancel, main_may_lease}

pub keeps_same : {P : Type 0} (b c : Seen P) → c ≡ b → KeepsGuests b c
keeps_same b c e = subst (λ x. KeepsGuests b x) (sym e) (record { out = refl; splits = refl; empty = λ r m. m; lent = λ j T l. l })

module _ {P : Type 0} {ends : P → Exit → Bool → P → Type 0} where
  pub keeps_closes : (b c : Seen P) (s : ℕ) (x : Exit) → IsOpenScope b s → ClosesScope ends b s x c → KeepsGuests b c
  keeps_closes b c s x open' o =
      let f = close_follows o in
      record {
        out = ap (λ u. u.out) f.same;
        splits = ap (λ u. u.splits) f.same;
        empty = λ r m. subst (λ l. IsAmong r l) (sym (ap (λ u. u.empty) f.same)) m;
        lent = λ j U l. lent_stays {ends = ends} (closed b c s x none open' o) l;
      }

module _ {P : Type 0} {ends : P → Exit → Bool → P → Type 0} {width n : ℕ} where
  pub keeps_leases : (b c : Seen P) (p : Progress P) (s : ℕ) (T : List ℕ) → IsMain ends width n b p → IsOpenScope b s → Leases b s p.leased T c → KeepsGuests b c
  keeps_leases b c p s T h root o = record {
    out = ap (λ u. u.out) o.seat;
    splits = ap (λ u. u.splits) o.seat;
    empty = λ r m. subst (λ l. IsAmong r l) (sym (ap (λ u. u.empty) o.seat)) m;
    lent = λ j U l. lent_stays {ends = ends} (lease_made b c s p.leased T none (main_may_lease h root) o) l;
  }

  pub keeps_cancels : (b c : Seen P) (p : Progress P) (us : List (ℕ × List ℕ)) (j : ℕ) (T : List ℕ) → IsMain ends width n b p → p.waits ≡ (j, T) ∷ us → Cancels ends b j T Canceled c → KeepsGuests b c
  keeps_cancels b c p us j T h is o =
      let f = cancel_follows o in
      record {
        out = ap (λ u. u.out) f.same;
        splits = ap (λ u. u.splits) f.same;
        empty = λ r m. subst (λ l. IsAmong r l) (sym (ap (λ u. u.empty) f.same)) m;
        lent = λ i U l. lent_stays {ends = ends} (cancelled b c j T Canceled none (main_may_cancel b p us j T h is) o) l;
      }

  -- no row of a lease that waits is a stranger
  pub main_no_strangers : (b : Seen P) (p : Progress P) (us : List (ℕ × List ℕ)) (j : ℕ) (T : List ℕ) → IsMain ends width n b p → p.waits ≡ (j, T) ∷ us → strangers (own_rows b.seat) T ≡ 0
  main_no_strangers b p us j T h is = strangers_none (own_rows b.seat) T (λ r m. lent_own b.seat j T (h.lent j T (subst (λ l. IsAmong (j, T) l) (sym is) (here us))) r m)

  -- the rows that a lease covers are those of tables
  pub leased_tables : (b c : Seen P) (p : Progress P) (s : ℕ) (T : List ℕ) → IsMain ends width n b p → Leases b s p.leased T c → (r : ℕ) → IsAmong r T → (t : ℕ) × IsAmong (Acquire r t) p.tables
  leased_tables b c p s T h o r m =
      let own : IsAmong r (own_rows c.seat) = lent_own c.seat p.leased T (leases_lent o) r m in
      let t = number_among r (rows (trace c.seat)) own in
      let w : IsAmong (Acquire r t.0) (trace b.seat) = ⊎_elim
      (λ i. i)
      (λ i. let z : Acquire r t.0 ≡ Lease p.leased s = i in cc)
      (among_snoc (trace b.seat) (Acquire r t.0) (Lease p.leased s) (subst (λ E. IsAmong (Acquire r t.0) E) (leased_said o) (in_rows r t.0 (trace c.seat) t.1))) in
      (t.0, h.told.outer (Acquire r t.0) (subst (λ k. Notes b.seat.events k (Acquire r t.0)) h.by (in_noted b.seat.by (Acquire r t.0) b.seat.events w)))

-- a lease takes one event
pub leases_take : {P : Type 0} (ends : P → Exit → Bool → P → Type 0) (b c : Seen P) (s j : ℕ) (T : List ℕ) → Leases b s j T c → TakesEvents 1 b c
leases_take ends b c s j T o = let t = (owed_stays {ends = ends}).leases b c s j T o in let e = t.0 in let d = t.1 in omega (e, d, arith)
