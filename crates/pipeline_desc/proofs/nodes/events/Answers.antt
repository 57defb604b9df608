use Rattle.std.proofs.Common.{List, ap, arith, length}
use Rattle.pipeline_desc.specs.declared.stream.StreamSpec.{StreamSpec}
use Rattle.pipeline_desc.proofs.nodes.events.Goals as goal

pub described_events-requires : goal.described_events-requires
described_events-requires c = let count = ap (λ (xs : List StreamSpec). length xs) c.streams.ensures.value in omega (arith, count, c.len.ensures)

pub listed_events-requires-clause-behind : goal.listed_events-requires-clause-behind
listed_events-requires-clause-behind c = let count = ap (λ (xs : List StreamSpec). length xs) c.streams.ensures.value in omega (arith, count, c.len.ensures)
