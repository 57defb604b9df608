use Rattle.std.proofs.Common.{List, ap, arith, length}
use Rattle.pipeline_desc.specs.declared.stream.StreamSpec.{StreamSpec}
use Rattle.pipeline_desc.proofs.nodes.node_made.Goals as goal

pub described_node-requires : goal.described_node-requires
described_node-requires c = let count = ap (λ (xs : List StreamSpec). length xs) c.streams.ensures.value in omega (arith, count, c.len.ensures)

pub node_of_list-requires-clause-behind : goal.node_of_list-requires-clause-behind
node_of_list-requires-clause-behind c = let count = ap (λ (xs : List StreamSpec). length xs) c.streams.ensures.value in omega (arith, count, c.len.ensures)
