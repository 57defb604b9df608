use Rattle.std.proofs.Common.{subst}
use Rattle.pipeline_desc.specs.Nodes.{IsBody}
use Rattle.pipeline_desc.proofs.NodeLaws.{body_has_kind, node_written}
use Rattle.pipeline_desc.proofs.nodes.stream_node.Goals as goal

pub with_text-requires : goal.with_text-requires
with_text-requires c =
    body_has_kind _ c.requires.kind.0 c.args.stream.now c.in_ok-body.body c.requires.kind.1 c.in_ok-body.ensures

pub returns : goal.returns
returns c =
    let text = c.in_ok-part.ensures in
    let body = subst (λ r. IsBody r c.args.stream.now c.in_ok-body.body) c.path_row.ensures.value c.in_ok-body.ensures in
    node_written c.args.place c.args.stream.now c.in_ok-body.body c.in_ok-part.part text.0 c.written.result body text.1 text.2 c.written.ensures
