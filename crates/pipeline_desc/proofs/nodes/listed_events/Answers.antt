use Rattle.std.proofs.Common.{◌≡◌, ◌∙◌, ℕ, [], Some, ap, arith}
use Rattle.std.specs.Prelude.{option_map}
use Rattle.pipeline_desc.specs.Meant.{listed_stream}
use Rattle.pipeline_desc.specs.Nodes.{stream_events}
use Rattle.pipeline_desc.specs.Places.{outer_rows}
use Rattle.pipeline_desc.proofs.NodeLaws.{shape_listed}
use Rattle.pipeline_desc.proofs.nodes.listed_events.Goals as goal

pub returns : goal.returns
returns c =
    let p = c.args.plan.now in
    let l = c.listed-list.result.now in
    let same : stream_events (outer_rows p) (listed_stream l []) ≡ c.events_by.result = omega (arith, c.outer_rows.ensures.value, c.events_by.ensures) in
    ap (option_map (stream_events (outer_rows p))) (shape_listed p [] c.args.k l c.requires.behind c.listed-list.ensures) ∙ ap (λ (n : ℕ). Some n) same
