use Rattle.std.proofs.Common.{◌≤◌}
use Rattle.par_eval.specs.Dealers.{SendsEnds}
use Rattle.par_eval.proofs.seats.send_ends.Given as goal

abbrev pub invariant-loop-number : goal.invariant-loop-number
invariant-loop-number g l = (SendsEnds l.from l.number l.initial.seats l.seats) × (l.from ≤ l.number)
