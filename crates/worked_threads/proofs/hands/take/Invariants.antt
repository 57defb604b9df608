use Rattle.std.proofs.Common.{◌≡◌}
use Rattle.par_eval.specs.Dealers.{IsDealerAt}
use Rattle.worked_threads.proofs.hands.take.Given as goal

abbrev pub invariant-tries : goal.invariant-tries
invariant-tries g l = IsDealerAt l.lanes l.dealer.lanes × (l.dealer.ended ≡ l.initial.dealer.ended) × (l.dealer.out ≡ l.initial.dealer.out)
