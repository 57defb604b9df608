use Rattle.std.proofs.Common.{[], refl, sym}
use Rattle.chunk_core.specs.Elements.LoadKind.{Bytes, Rows}
use Rattle.pull_nodes.specs.Pipes.{meaning}
use Rattle.pull_nodes.specs.declared.pipe.Pipe.TheVariants as pipe
use Rattle.pipe_bench.proofs.feeding.run_each.Goals as goal

pub feed_block-requires-clause-pipe : goal.feed_block-requires-clause-pipe
feed_block-requires-clause-pipe g c = let m = meaning pipe.Csv Bytes Rows in (m, [], c.in_ok-pipe.ensures m refl, sym c.in_ok-block.ensures)
