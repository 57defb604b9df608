use Rattle.std.proofs.Common.{[], subst}
use Rattle.std.specs.Prelude.{IfOk}
use Rattle.pipeline_desc.specs.Nodes.{IsMade, IsStreamNode}
use Rattle.pipeline_desc.specs.Places.{first_row}
use Rattle.pipeline_desc.proofs.NodeLaws.{of_given, shape_described}
use Rattle.pipeline_desc.proofs.nodes.described_node.Goals as goal

pub returns : goal.returns
returns c =
    let p = c.args.plan.now in
    let k = c.args.k in
    let s = c.stream-stream.result.now in
    let r = c.stream_node.result in
    let given = subst (λ q. IfOk r (IsStreamNode q s)) c.first_row-place.ensures.row c.stream_node.ensures in
    of_given (IsStreamNode (first_row p k) s) (IsMade p k) r given (λ n h. (s, shape_described p [] k s c.stream-stream.ensures.value, h, c.stream-stream.ensures.sound.few))
