use Rattle.std.proofs.Common.{◌≡◌, List, length}
use Rattle.chunk_core.specs.Feed.{Meaning}
use Rattle.tee_pump.specs.Branches.{AreHired}
use Rattle.tee_pump.proofs.serving.turn_all.Given as goal

-- they stay those branches
abbrev pub invariant-loop-i : goal.invariant-loop-i
invariant-loop-i g l = record {
  hired : (ms : List Meaning) → AreHired g.F.Feed.stands g.F.Feed.comes (record { topic = l.site.topic.now; hub = l.site.hub.now; board = l.site.board.now }) ms l.fn.hired.items → AreHired g.F.Feed.stands g.F.Feed.comes (record { topic = l.site.topic.now; hub = l.site.hub.now; board = l.site.board.now }) ms l.hired.items;
  same : length l.hired.items ≡ length l.fn.hired.items;
}
