use Rattle.std.proofs.Common.{◌≡◌}
use Rattle.worked_threads.proofs.channels.receives_numbers.Given as goal

abbrev pub invariant-loop-number : goal.invariant-loop-number
invariant-loop-number g l = l.receiver.hub ≡ l.hub.id
