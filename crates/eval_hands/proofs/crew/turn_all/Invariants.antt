use Rattle.eval_hands.specs.Crews.{AreHired}
use Rattle.eval_hands.proofs.crew.turn_all.Given as goal

-- all are hired still
abbrev pub invariant-loop-i : goal.invariant-loop-i
invariant-loop-i g l = AreHired g.W.Work.result_of l.place.work.now l.place.lanes.now l.hands.items
