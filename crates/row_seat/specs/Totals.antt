-- How often something stands in a list; a place and a sum over all are passed on.
use Rattle.std.specs.Prelude.{ℕ, ◌+◌, false, nat_eq, cond, List, [], ◌∷◌}
use Rattle.res_ledger.specs.declared.event.Event.{Event}
pub use Rattle.chunk_core.specs.Totals.{IsAt, total}

-- how often r stands in the list
abbrev pub times : ℕ → List ℕ → ℕ
times r [] = 0
times r (x ∷ xs) = cond (nat_eq x r) 1 0 + times r xs

-- how often the row r stands among pairs
abbrev pub row_times : ℕ → List (ℕ × ℕ) → ℕ
row_times r [] = 0
row_times r (x ∷ xs) = cond (nat_eq x.1 r) 1 0 + row_times r xs

-- how often the pair (j, r) stands among pairs
abbrev pub pair_times : ℕ → ℕ → List (ℕ × ℕ) → ℕ
pair_times j r [] = 0
pair_times j r (x ∷ xs) = cond (cond (nat_eq x.0 j) (nat_eq x.1 r) false) 1 0 + pair_times j r xs

-- how often an event with the stamp n stands among events
abbrev pub stamp_times : ℕ → List Event → ℕ
stamp_times n [] = 0
stamp_times n (e ∷ L) = cond (nat_eq e.stamp n) 1 0 + stamp_times n L
