use Rattle.std.proofs.Common.{◌≡◌}
use Rattle.worked_threads.proofs.channels.send_numbers.Given as goal

abbrev pub invariant-loop-number : goal.invariant-loop-number
invariant-loop-number g l = (l.sender.hub ≡ l.hub.id) × (l.sender.stream ≡ l.stream)
