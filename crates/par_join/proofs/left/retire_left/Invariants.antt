use Rattle.par_join.proofs.GoingBack.{GoesBack}
use Rattle.par_join.proofs.left.retire_left.Given as goal

-- what was taken off the list came back
abbrev pub invariant-loop-one : goal.invariant-loop-one
invariant-loop-one g l = GoesBack g.D.Dev.Device.told (g.D.Depot.told l.fn.depot) (g.D.Depot.told l.depot) l.fn.left.items l.left.items

abbrev pub decreases-loop-one : goal.decreases-loop-one
decreases-loop-one g l = goal.left-loop-one g l
