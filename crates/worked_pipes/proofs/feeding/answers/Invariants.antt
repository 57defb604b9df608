use Rattle.chunk_core.specs.Feed.{MayFeed, MayFinish}
use Rattle.worked_pipes.proofs.feeding.answers.Given as goal

abbrev pub invariant-loop-piece : goal.invariant-loop-piece
invariant-loop-piece g l = MayFeed (g.P.Feed.stands l.pipe) g.M.Made.kind

abbrev pub invariant-loop : goal.invariant-loop
invariant-loop g l = MayFinish (g.P.Feed.stands l.pipe) (g.P.Feed.comes l.pipe)
