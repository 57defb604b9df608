use Rattle.std.proofs.Common.{List, None}
use Rattle.chunk_core.specs.Elements.{Element}
use Rattle.chunk_core.specs.Feed.{Meaning}
use Rattle.any_pipe.specs.Pouring.{AreOf, FeedsAll}
use Rattle.any_pipe.proofs.pouring.feed_all.Given as goal

abbrev pub invariant-loop-load : goal.invariant-loop-load
invariant-loop-load g l =
    (m : Meaning) (xs : List Element) → g.F.Feed.stands l.fn.pipe m xs → AreOf m.takes l.fn.loads.items → FeedsAll m xs l.yielded l.given.items None (g.F.Feed.stands l.pipe m)
