use Rattle.chunk_core.specs.Feed.{MayFeed}
use Rattle.worked_pipes.proofs.feeding.stay.Given as goal

abbrev pub invariant-loop-piece : goal.invariant-loop-piece
invariant-loop-piece g l = MayFeed (g.P.Feed.stands l.pipe) g.M.Made.kind
