use Rattle.std.proofs.Common.{◌≡◌, ℕ, ◌+◌, ◌≤◌, length, Option, Some, None, ◌∙◌, ap, arith}
use Rattle.std.proofs.lemmas.List.Sums.{sum_by-append}
use Rattle.std.specs.List.{range_with_len, sum_by}
use Rattle.std.specs.Prelude.{option_map, option_to_list, unwrap_or}
use Rattle.collected.proofs.TriedRows.{range_both}
use Rattle.collector.specs.Trees.{events_at}
use Rattle.pipeline_desc.specs.Meant.{PlanMeant}
use Rattle.pipeline_desc.specs.Nodes.{events_of, shape_of, stream_events}
use Rattle.pipeline_desc.specs.Places.{outer_rows}
use Rattle.pipeline_desc.specs.declared.stream.StreamSpec.{StreamSpec}
use Rattle.pipeline_desc.proofs.NodeLaws.{row_count_le}
use Rattle.par_join.proofs.room.all_events.Goals as goal

one_at_most : {A : Type 0} (o : Option A) → length (option_to_list o) ≤ 1
one_at_most None = omega arith
one_at_most (Some x) = omega arith

-- a stream notes few events
events_few : (outer : ℕ) (s : StreamSpec) → stream_events outer s ≤ 10 + outer
events_few outer s = omega (arith, row_count_le s, one_at_most s.on_fault)

told_few : (outer : ℕ) (o : Option StreamSpec) (e : ℕ) → option_map (stream_events outer) o ≡ Some e → e ≤ 10 + outer
told_few outer None e h = absurd (let f : None ≡ Some e = h in cc)
told_few outer (Some s) e h = let same : stream_events outer s ≡ e = cc in omega (arith, events_few outer s, same)

-- one stream more is counted
counts_more : (p : PlanMeant) (k e : ℕ) → events_of p k ≡ Some e → (sum_by (events_at p) (range_with_len 0 (k + 1)) ≡ sum_by (events_at p) (range_with_len 0 k) + e) × (e ≤ 10 + outer_rows p)
counts_more p k e h =
    let both = ap (λ ks. sum_by (events_at p) ks) (range_both 0 k 1) in
    let sum = sum_by-append (events_at p) (range_with_len 0 k) (range_with_len (0 + k) 1) in
    let z : 0 + k ≡ k = omega arith in
    let one : sum_by (events_at p) (range_with_len (0 + k) 1) ≡ 0 + e = ap (λ j. 0 + events_at p j) z ∙ ap (λ o. 0 + unwrap_or o 0) h in
    (omega (arith, both, sum, one), told_few (outer_rows p) (shape_of p k) e h)

pub loop-k-preserved : goal.loop-k-preserved
loop-k-preserved c =
    let outer : outer_rows c.args.plan.now ≤ 9 = rw (← c.outer_rows.ensures.value) c.outer_rows.ensures.few in
    let (sums, small) = counts_more c.args.plan.now c.loop-k.k c.events.result c.events.ensures in
    record {
      counted = omega (arith, c.loop-k.invariant.counted, sums);
      few = omega (arith, c.loop-k.invariant.few, small, outer);
    }
