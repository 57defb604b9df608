use Rattle.std.proofs.Common.{[]}
use Rattle.pipeline_desc.specs.Meant.{listed_stream}
use Rattle.pipeline_desc.proofs.NodeLaws.{body_has_kind, listed_given}
use Rattle.pipeline_desc.proofs.nodes.listed_node.Goals as goal

pub with_text-requires : goal.with_text-requires
with_text-requires c = body_has_kind c.args.place c.requires.0 (listed_stream c.args.list.now []) c.in_ok-body.body c.requires.1 c.in_ok-body.ensures

pub returns : goal.returns
returns c = listed_given c.args.place c.args.list.now c.in_ok-body.body c.with_text.result c.in_ok-body.ensures c.with_text.ensures
