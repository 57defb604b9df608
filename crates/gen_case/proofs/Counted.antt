-- The row of each stream of a case.
use Rattle.std.proofs.Common.{◌≡◌, ℕ, zero, suc, ◌+◌, ◌<◌, ◌≤◌, map, take, refl, ap, ◌∙◌, arith}
use Rattle.std.specs.List.{range_with_len, sum_by}
use Rattle.std.proofs.lemmas.List.FromFn.{length-map-range_with_len}
use Rattle.std.proofs.lemmas.List.Sums.{sum_by-cons}
use Rattle.pipeline_desc.specs.Places.{first_row, row_count}
use Rattle.gen_case.specs.Plan.{plan_of_case, stream_spec}
use Rattle.gen_case.specs.declared.case.Case.{Case}

-- each stream has one row
one_each : (n a k : ℕ) → k ≤ n → sum_by row_count (take k (map stream_spec (range_with_len a n))) ≡ k
one_each n a zero h = refl
one_each zero a (suc k) h = absurd (omega (arith, h))
one_each (suc n) a (suc k) h =
    let next : 1 + k ≡ suc k = omega arith in
    sum_by-cons row_count (stream_spec a) (take k (map stream_spec (range_with_len (a + 1) n))) ∙ (ap (λ m. 1 + m) (one_each n (a + 1) k (omega (arith, h))) ∙ next)

-- and the table has the first
pub rows_before : (c : Case) (k : ℕ) → k < c.streams → first_row (plan_of_case c) k ≡ 1 + k
rows_before c k h = omega (arith, h, one_each c.streams 0 k (omega (arith, h)), length-map-range_with_len stream_spec 0 c.streams)
