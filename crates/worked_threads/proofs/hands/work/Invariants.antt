use Rattle.std.proofs.Common.{◌≡◌, false}
use Rattle.par_eval.specs.Hands.{IsHandAt}
use Rattle.worked_threads.proofs.hands.work.Given as goal

abbrev pub invariant-turns : goal.invariant-turns
invariant-turns g l = IsHandAt l.lanes l.hand × (l.hand.over ≡ false)
