use Rattle.chunk_core.specs.Feed.{MayFeed}
use Rattle.pipe_bench.proofs.feeding.run.Given as goal

abbrev pub invariant-loop : goal.invariant-loop
invariant-loop g l = MayFeed (g.P.Feed.stands l.pipe) g.I.Input.kind
