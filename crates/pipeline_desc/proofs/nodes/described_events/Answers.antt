use Rattle.std.proofs.Common.{◌≡◌, ◌∙◌, ℕ, [], Some, ap, arith}
use Rattle.std.specs.Prelude.{option_map}
use Rattle.pipeline_desc.specs.Nodes.{stream_events}
use Rattle.pipeline_desc.specs.Places.{outer_rows}
use Rattle.pipeline_desc.proofs.NodeLaws.{shape_described}
use Rattle.pipeline_desc.proofs.nodes.described_events.Goals as goal

pub returns : goal.returns
returns c =
    let p = c.args.plan.now in
    let s = c.stream-stream.result.now in
    let same : stream_events (outer_rows p) s ≡ c.events_by.result = omega (arith, c.row_count.ensures, c.outer_rows.ensures.value, c.events_by.ensures) in
    ap (option_map (stream_events (outer_rows p))) (shape_described p [] c.args.k s c.stream-stream.ensures.value) ∙ ap (λ (n : ℕ). Some n) same
