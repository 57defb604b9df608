use Rattle.par_eval.specs.Dealers.{IsTeam}
use Rattle.par_eval.proofs.team.hire_all.Given as goal

abbrev pub invariant-loop-number : goal.invariant-loop-number
invariant-loop-number g l = IsTeam l.number l.lanes.items l.seats.items l.hands.items
