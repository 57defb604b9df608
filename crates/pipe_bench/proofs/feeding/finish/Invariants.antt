use Rattle.chunk_core.specs.Feed.{MayFinish}
use Rattle.pipe_bench.proofs.feeding.finish.Given as goal

abbrev pub invariant-loop : goal.invariant-loop
invariant-loop g l = MayFinish (g.P.Feed.stands l.pipe) (g.P.Feed.comes l.pipe)
