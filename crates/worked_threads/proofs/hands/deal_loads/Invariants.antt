use Rattle.std.proofs.Common.{◌≡◌, ◌≤◌, None}
use Rattle.par_eval.specs.Dealers.{IsDealerAt}
use Rattle.worked_threads.proofs.hands.deal_loads.Given as goal

abbrev pub invariant-loop-number : goal.invariant-loop-number
invariant-loop-number g l = IsDealerAt l.lanes l.dealer.lanes × (l.dealer.ended ≡ None) × (l.dealer.out ≤ l.jobs)
