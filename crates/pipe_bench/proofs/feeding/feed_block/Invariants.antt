use Rattle.std.proofs.Common.{◌≡◌}
use Rattle.chunk_core.specs.Elements.{kind_of}
use Rattle.chunk_core.specs.Feed.{MayFeed}
use Rattle.pipe_bench.proofs.feeding.feed_block.Given as goal

abbrev pub invariant-loop : goal.invariant-loop
invariant-loop g l = (kind_of l.block ≡ kind_of l.fn.block) × MayFeed (g.P.Feed.stands l.pipe) (kind_of l.fn.block)
