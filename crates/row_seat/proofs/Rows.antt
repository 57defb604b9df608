-- What a row's word tells, and a step on one row.
use Rattle.std.proofs.Common.{◌≡◌, ◌≢◌, ℕ, ◌+◌, ◌*◌, ◌<◌, ◌≤◌, ◌⊎◌, List, slice_set, inl, inr, sym, subst, ⊎_elim, arith}
use Rattle.std.proofs.lemmas.Bool.{cases_eq}
use Rattle.row_seat.specs.Totals.{IsAt, row_times, times}
use Rattle.res_ledger.specs.declared.event.Event.{Event}
use Rattle.res_ledger.specs.Ledger.{IsAcquired, IsFinalized, IsRowClosed}
use Rattle.row_seat.specs.Rule.{RowsAgree, RowStands, Holdings, empties, hands, leases, open_count}
use Rattle.row_seat.specs.Rule.RowStands.{awaits, beyond, final, handed, opened, vacant}
use Rattle.row_seat.proofs.Tick.{stands_is}
use Rattle.row_seat.proofs.Totals.{total_set}

module _ {rows r word e o n h : ℕ} {A C F : Type 0} where
  pub is_vacant : RowStands rows r word e o n h A C F → 1 ≤ e → (r < rows) × (word ≡ 0) × (e ≡ 1) × (o ≡ 0) × (n ≡ 0) × (h ≡ 0) × ¬ F
  is_vacant (vacant a b c d i j k) l = (a, b, c, d, i, j, k)
  is_vacant (opened a b c d i j k) l = absurd (omega arith)
  is_vacant (awaits a b c d i j k m) l = absurd (omega arith)
  is_vacant (handed a b c d i j k m) l = absurd (omega arith)
  is_vacant (final a b c d i j k m) l = absurd (omega arith)
  is_vacant (beyond a b c d i j) l = absurd (omega arith)

  pub is_open : RowStands rows r word e o n h A C F → 1 ≤ o → (r < rows) × (word ≡ 1 + 4 * n) × (e ≡ 0) × (o ≡ 1) × (h ≡ 0) × A × ¬ F
  is_open (vacant a b c d i j k) l = absurd (omega arith)
  is_open (opened a b c d i j k) l = (a, b, c, d, i, j, k)
  is_open (awaits a b c d i j k m) l = absurd (omega arith)
  is_open (handed a b c d i j k m) l = absurd (omega arith)
  is_open (final a b c d i j k m) l = absurd (omega arith)
  is_open (beyond a b c d i j) l = absurd (omega arith)

  pub handed_word : RowStands rows r word e o n h A C F → 1 ≤ h → (r < rows) × (word ≡ 3) × (n ≡ 0) × (h ≡ 1)
  handed_word (vacant a b c d i j k) l = absurd (omega arith)
  handed_word (opened a b c d i j k) l = absurd (omega arith)
  handed_word (awaits a b c d i j k m) l = absurd (omega arith)
  handed_word (handed a b c d i j k m) l = (a, b, i, j)
  handed_word (final a b c d i j k m) l = absurd (omega arith)
  handed_word (beyond a b c d i j) l = absurd (omega arith)

  -- a row is in one view, as empty, open or handed
  pub one_place : RowStands rows r word e o n h A C F → e + o + h ≤ 1
  one_place (vacant a b c d i j k) = omega arith
  one_place (opened a b c d i j k) = omega arith
  one_place (awaits a b c d i j k m) = omega arith
  one_place (handed a b c d i j k m) = omega arith
  one_place (final a b c d i j k m) = omega arith
  one_place (beyond a b c d i j) = omega arith

  -- a row with a pair is open or awaits its last lease
  pub is_leased : RowStands rows r word e o n h A C F → 1 ≤ n → (r < rows) × (e ≡ 0) × (h ≡ 0) × ¬ F × (((word ≡ 1 + 4 * n) × (o ≡ 1) × A) ⊎ ((word ≡ 3 + 4 * n) × (o ≡ 0) × C))
  is_leased (vacant a b c d i j k) l = absurd (omega arith)
  is_leased (opened a b c d i j k) l = (a, c, i, k, inl (b, d, j))
  is_leased (awaits a b c d i j k m) l = (a, d, j, m, inr (b, i, k))
  is_leased (handed a b c d i j k m) l = absurd (omega arith)
  is_leased (final a b c d i j k m) l = absurd (omega arith)
  is_leased (beyond a b c d i j) l = absurd (omega arith)

-- a step on the row r alone
module _ (rows : ℕ) (word word' : ℕ → ℕ) (log : List Event) (ws : List Holdings) (k : RowsAgree rows word log ws) (id r : ℕ) (v w : Holdings) (at : IsAt ws id v) where
  pub row_step : ((q : ℕ) → q ≢ r → word' q ≡ word q) → ((q : ℕ) → q ≢ r → (times q w.empty ≡ times q v.empty) × (times q w.opened ≡ times q v.opened) × (row_times q w.pairs ≡ row_times q v.pairs) × (times q w.handed ≡ times q v.handed))
      → RowStands rows r (word' r) (empties r (slice_set ws id w)) (open_count r (slice_set ws id w)) (leases r (slice_set ws id w)) (hands r (slice_set ws id w)) (IsAcquired log r) (IsRowClosed log r) (IsFinalized log r)
      → RowsAgree rows word' log (slice_set ws id w)
  row_step words same now q =
      ⊎_elim
      (λ e. subst (λ n. RowStands rows n (word' n) (empties n (slice_set ws id w)) (open_count n (slice_set ws id w)) (leases n (slice_set ws id w)) (hands n (slice_set ws id w)) (IsAcquired log n) (IsRowClosed log n) (IsFinalized log n)) (sym e) now)
      (λ ne.
      let a = total_set (λ (u : Holdings). times q u.empty) ws id v w at in
      let b = total_set (λ (u : Holdings). times q u.opened) ws id v w at in
      let c = total_set (λ (u : Holdings). row_times q u.pairs) ws id v w at in
      let d = total_set (λ (u : Holdings). times q u.handed) ws id v w at in
      let s = same q ne in let s0 = s.0 in let s1 = s.1 in let s2 = s.2 in let s3 = s.3 in
      let ea : empties q ws ≡ empties q (slice_set ws id w) = omega arith in
      let eb : open_count q ws ≡ open_count q (slice_set ws id w) = omega arith in
      let ec : leases q ws ≡ leases q (slice_set ws id w) = omega arith in
      let ed : hands q ws ≡ hands q (slice_set ws id w) = omega arith in
      stands_is (k q) (sym (words q ne)) ea eb ec ed)
      (cases_eq q r)
