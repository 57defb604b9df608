use Rattle.std.proofs.Common.{◌≡◌}
use Rattle.worked_threads.proofs.hands.put.Given as goal

abbrev pub invariant-tries : goal.invariant-tries
invariant-tries g l = l.dealer ≡ l.initial.dealer
