use Rattle.std.proofs.Common.{◌∙◌, List, ap, arith, length, take}
use Rattle.std.specs.List.{sum_by}
use Rattle.std.proofs.lemmas.List.{take_all}
use Rattle.std.proofs.lemmas.List.Sums.{sum_by-take-le}
use Rattle.pipeline_desc.specs.Places.{row_count}
use Rattle.pipeline_desc.specs.declared.stream.StreamSpec.{StreamSpec}
use Rattle.pipeline_desc.proofs.NodeLaws.{limit_le, rows_le}
use Rattle.pipeline_desc.proofs.nodes.first_row.Goals as goal

pub rows_of_all-requires : goal.rows_of_all-requires
rows_of_all-requires c =
    let streams = c.as_slice-described.result.now in
    let same = ap (λ (xs : List StreamSpec). length xs) c.as_slice-described.ensures in
    omega (arith, sum_by-take-le row_count streams c.args.k, rows_le streams, same, c.streams.ensures.few)

pub overflow_add-result : goal.overflow_add-result
overflow_add-result c =
    let streams = c.as_slice-described.result.now in
    let same = ap (λ (xs : List StreamSpec). length xs) c.as_slice-described.ensures in
    omega (arith, c.rows_of_all.ensures, c.outer_rows-outer.ensures.few, sum_by-take-le row_count streams c.args.k, rows_le streams, same, c.streams.ensures.few)

pub returns-then-k-described-clause-few : goal.returns-then-k-described-clause-few
returns-then-k-described-clause-few c =
    let streams = c.as_slice-described.result.now in
    let same = ap (λ (xs : List StreamSpec). length xs) c.as_slice-described.ensures in
    omega (arith, c.rows_of_all.ensures, c.outer_rows-outer.ensures.few, sum_by-take-le row_count streams c.args.k, rows_le streams, same, c.streams.ensures.few)

pub returns-then-k-described-clause-row : goal.returns-then-k-described-clause-row
returns-then-k-described-clause-row c =
    let all = c.as_slice-described.ensures ∙ c.streams.ensures.value in
    let rows = ap (λ (xs : List StreamSpec). sum_by row_count (take c.args.k xs)) all in
    let count = ap (λ (xs : List StreamSpec). length xs) all in
    omega (arith, c.outer_rows-outer.ensures.value, c.rows_of_all.ensures, rows, count, c.if-k-described.true)

pub rows_of_all-requires-2 : goal.rows_of_all-requires-2
rows_of_all-requires-2 c =
    let streams = c.as_slice-described.result.now in
    let same = ap (λ (xs : List StreamSpec). length xs) c.as_slice-described.ensures in
    omega (arith, rows_le streams, same, c.streams.ensures.few)

pub overflow_add-result-2 : goal.overflow_add-result-2
overflow_add-result-2 c =
    let streams = c.as_slice-described.result.now in
    let same = ap (λ (xs : List StreamSpec). length xs) c.as_slice-described.ensures in
    omega (arith, c.rows_of_all-2.ensures, c.outer_rows-outer.ensures.few, rows_le streams, same, c.streams.ensures.few)

pub overflow_add-result-3 : goal.overflow_add-result-3
overflow_add-result-3 c =
    let streams = c.as_slice-described.result.now in
    let same = ap (λ (xs : List StreamSpec). length xs) c.as_slice-described.ensures in
    let limit = limit_le c.args.plan.now c.limits.ensures in
    omega (arith, c.rows_of_all-2.ensures, c.outer_rows-outer.ensures.few, rows_le streams, same, c.streams.ensures.few, limit, c.requires)

pub returns-clause-few : goal.returns-clause-few
returns-clause-few c =
    let streams = c.as_slice-described.result.now in
    let same = ap (λ (xs : List StreamSpec). length xs) c.as_slice-described.ensures in
    let limit = limit_le c.args.plan.now c.limits.ensures in
    omega (arith, c.rows_of_all-2.ensures, c.outer_rows-outer.ensures.few, rows_le streams, same, c.streams.ensures.few, limit, c.requires)

pub returns-clause-row : goal.returns-clause-row
returns-clause-row c =
    let all = c.as_slice-described.ensures ∙ c.streams.ensures.value in
    let rows = ap (λ (xs : List StreamSpec). sum_by row_count xs) all in
    let count = ap (λ (xs : List StreamSpec). length xs) all in
    let whole = ap (λ (xs : List StreamSpec). sum_by row_count xs) (take_all c.args.k c.args.plan.now.streams (omega (arith, count, c.if-k-described.false))) in
    omega (arith, c.outer_rows-outer.ensures.value, c.rows_of_all-2.ensures, rows, count, whole, c.if-k-described.false)
