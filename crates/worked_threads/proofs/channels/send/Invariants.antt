use Rattle.std.proofs.Common.{◌≡◌}
use Rattle.worked_threads.proofs.channels.send.Given as goal

abbrev pub invariant-tries : goal.invariant-tries
invariant-tries g l = (l.sender ≡ l.initial.sender) × (l.m ≡ l.initial.m)
