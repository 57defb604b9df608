-- Where a row stands, by its word and by the ledger.
use Rattle.std.proofs.Common.{◌≡◌, ℕ, ◌+◌, ◌*◌, ◌<◌, ◌≤◌, ◌⊎◌, map, List, inl, inr, sym, subst, ⊎_elim, arith}
use Rattle.std.specs.Prelude.{Option}
use Rattle.chunk_core.specs.Lists.{IsAmong}
use Rattle.chunk_core.proofs.Places.{at_map}
use Rattle.res_ledger.specs.declared.event.Event.{Event}
use Rattle.res_ledger.specs.declared.event.StreamNo.{StreamNo}
use Rattle.res_ledger.specs.Ledger.{Covers, IsAcquired, IsCanceled, IsFinalized, IsRowClosed}
use Rattle.res_ledger.specs.Standing.{HasStanding, Standing, standing_of}
use Rattle.res_ledger.specs.Standing.Standing.{Open, Awaiting, Handed, Finalized}
use Rattle.res_ledger.proofs.Standings.{standing_is_exact}
use Rattle.row_seat.specs.declared.token.Token.{Token}
use Rattle.row_seat.specs.Laws.{WordTells}
use Rattle.row_seat.specs.Rule.{Hold, RuleHolds, RowStands, Holdings, hold, leases, work}
use Rattle.row_seat.specs.Rule.RowStands.{awaits, beyond, final, handed, opened, vacant}
use Rattle.row_seat.specs.Totals.{row_times}
use Rattle.row_seat.proofs.Times.{row_some}
use Rattle.row_seat.proofs.Totals.{map_back, total_at}

module _ {rows r w e o n h : ℕ} {A C F : Type 0} (low : r < rows) where
  none_final : RowStands rows r w e o n h A C F → w ≡ 0 → ¬ F
  none_final (vacant a b c d i j k) z = k
  none_final (opened a b c d i j k) z = k
  none_final (awaits a b c d i j k m) z = m
  none_final (handed a b c d i j k m) z = m
  none_final (final a b c d i j k m) z = absurd (omega arith)
  none_final (beyond a b c d i j) z = absurd (omega arith)

  by_open : RowStands rows r w e o n h A C F → (m : ℕ) → w ≡ 1 + 4 * m → A × ¬ F
  by_open (vacant a b c d i j k) m z = absurd (omega arith)
  by_open (opened a b c d i j k) m z = (j, k)
  by_open (awaits a b c d i j k q) m z = absurd (omega arith)
  by_open (handed a b c d i j k q) m z = absurd (omega arith)
  by_open (final a b c d i j k q) m z = absurd (omega arith)
  by_open (beyond a b c d i j) m z = absurd (omega arith)

  by_waiting : RowStands rows r w e o n h A C F → (m : ℕ) → w ≡ 3 + 4 * m → 1 ≤ m → C × ¬ F
  by_waiting (vacant a b c d i j k) m z l = absurd (omega arith)
  by_waiting (opened a b c d i j k) m z l = absurd (omega arith)
  by_waiting (awaits a b c d i j k q) m z l = (k, q)
  by_waiting (handed a b c d i j k q) m z l = absurd (omega arith)
  by_waiting (final a b c d i j k q) m z l = absurd (omega arith)
  by_waiting (beyond a b c d i j) m z l = absurd (omega arith)

  by_closed : RowStands rows r w e o n h A C F → w ≡ 3 → C × (n ≡ 0) × (F ⊎ ¬ F)
  by_closed (vacant a b c d i j k) z = absurd (omega arith)
  by_closed (opened a b c d i j k) z = absurd (omega arith)
  by_closed (awaits a b c d i j k q) z = absurd (omega arith)
  by_closed (handed a b c d i j k q) z = (k, i, inr q)
  by_closed (final a b c d i j k q) z = (k, i, inl q)
  by_closed (beyond a b c d i j) z = absurd (omega arith)

  forms : RowStands rows r w e o n h A C F → (w ≡ 0) ⊎ (((m : ℕ) × (w ≡ 1 + 4 * m)) ⊎ ((m : ℕ) × (w ≡ 3 + 4 * m)))
  forms (vacant a b c d i j k) = inl b
  forms (opened a b c d i j k) = inr (inl (n, b))
  forms (awaits a b c d i j k q) = inr (inr (n, b))
  forms (handed a b c d i j k q) = inr (inr (0, omega arith))
  forms (final a b c d i j k q) = inr (inr (0, omega arith))
  forms (beyond a b c d i j) = absurd (omega arith)

open_or : (L : List Event) (r : ℕ) (s : Standing) → HasStanding L r s → ¬ (IsFinalized L r) → HasStanding L r Open ⊎ (IsRowClosed L r × ¬ (IsFinalized L r))
open_or L r Open h f = inl h
open_or L r Awaiting h f = inr (h.1.1, f)
open_or L r Handed h f = inr (h.1.1, f)
open_or L r Finalized h f = absurd (f h.1)

waiting_or : (L : List Event) (r : ℕ) (s : Standing) → HasStanding L r s → IsRowClosed L r → ¬ (IsFinalized L r) → HasStanding L r Awaiting ⊎ HasStanding L r Handed
waiting_or L r Open h c f = absurd (h.1.1 c)
waiting_or L r Awaiting h c f = inl h
waiting_or L r Handed h c f = inr h
waiting_or L r Finalized h c f = absurd (f h.1)

module _ {P : Type 0} {rows room : ℕ} {word : ℕ → ℕ} {slot : ℕ → Option P} {log : List Event} {views : List (Token P)} (rule : RuleHolds rows room word slot log views) where
  -- where no lease stands on the row each Lease that covers it is cancelled
  released : (r : ℕ) → leases r (map work views) ≡ 0 → (j : ℕ) (k : StreamNo) → Covers log j k r → IsCanceled log j
  released r none j k c = ⊎_elim (λ x. x)
      (λ p. let y = map_back hold views p.0 p.1 p.2 in let m = row_some j r y.0.pairs (subst (λ (z : Hold). IsAmong (j, r) z.pairs) (sym y.2) p.3) in
      let l = total_at (λ (u : Holdings). row_times r u.pairs) (map work views) p.0 (work y.0) (at_map work views p.0 y.0 y.1) in absurd (omega arith))
      (rule.leases.stand j r k c)

  exact : (r : ℕ) → IsAcquired log r → HasStanding log r (standing_of log r)
  exact r a = standing_is_exact log rule.books.legal r a

  pub word_tells : (r : ℕ) → r < rows → WordTells log r (word r)
  word_tells r low =
      let s = rule.words r in let of : IsRowClosed log r → IsAcquired log r = λ c. (c.0, c.1, c.2) in record {
        unplaced = none_final low s;
        opened = λ n e. let t = by_open low s n e in open_or log r (standing_of log r) (exact r t.0) t.1;
        awaiting = λ n e l. let t = by_waiting low s n e l in waiting_or log r (standing_of log r) (exact r (of t.0)) t.0 t.1;
        closed = λ e. let t = by_closed low s e in ⊎_elim (λ f. inr (of t.0, f)) (λ nf. inl (of t.0, (nf, t.0, released r t.1))) t.2;
        words = forms low s;
      }
