-- Knots of which none is greater than the one above it.
use Rattle.std.specs.Prelude.{◌≡◌, ◌≢◌, ◌<◌, ◌≤◌, ◌+◌, ℕ, suc, List, length, slice_index_or}
use Rattle.ledger_books.specs.declared.peaks.Peaks.{Peaks}

-- what stands below each of the knots in front of place h, but for the knot at place c, is no greater
abbrev pub RisesBut : List ℕ → ℕ → ℕ → Type 0
RisesBut xs h c = (n : ℕ) → 0 < n → n < h → n + n ≢ c → suc (n + n) ≢ c → (slice_index_or xs (n + n) 0 ≤ slice_index_or xs n 0) × (slice_index_or xs (suc (n + n)) 0 ≤ slice_index_or xs n 0)

-- no knot is greater than the one above it
pub record IsHeap (x : Peaks) : Type 0 where
  pub some : 0 < x.half
  pub long : length x.knots.items ≡ x.half + x.half
  pub rises : RisesBut x.knots.items x.half 0

-- the number at place i
abbrev pub peak_at : Peaks → ℕ → ℕ
peak_at x i = slice_index_or x.knots.items (x.half + i) 0
