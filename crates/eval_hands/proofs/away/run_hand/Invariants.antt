use Rattle.eval_hands.specs.Returns.{Returns}
use Rattle.eval_hands.proofs.away.run_hand.Given as goal

-- it is the hand that came
abbrev pub invariant-turns : goal.invariant-turns
invariant-turns g l = Returns (g.W.Work.result_of l.place.work.now) l.initial.hand l.hand
