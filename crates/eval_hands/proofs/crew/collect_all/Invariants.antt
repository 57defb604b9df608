use Rattle.eval_hands.proofs.Crewing.{IsCollecting}
use Rattle.eval_hands.proofs.crew.collect_all.Given as goal

-- those behind the ones that are left were taken in
abbrev pub invariant-loop-hired : goal.invariant-loop-hired
invariant-loop-hired g l = IsCollecting g.W.Work.result_of l.place.work.now l.place.lanes.now l.fn.dealer.lanes l.dealer.lanes l.dealer.ended l.hands.items

abbrev pub decreases-loop-hired : goal.decreases-loop-hired
decreases-loop-hired g l = goal.left-loop-hired g l
