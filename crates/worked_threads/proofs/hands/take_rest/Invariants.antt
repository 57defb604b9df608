use Rattle.std.proofs.Common.{◌≡◌}
use Rattle.par_eval.specs.Dealers.{IsDealerAt}
use Rattle.worked_threads.proofs.hands.take_rest.Given as goal

abbrev pub decreases-rest : goal.decreases-rest
decreases-rest g l = l.dealer.out

abbrev pub invariant-rest : goal.invariant-rest
invariant-rest g l = IsDealerAt l.lanes l.dealer.lanes × (l.dealer.ended ≡ l.initial.dealer.ended)
