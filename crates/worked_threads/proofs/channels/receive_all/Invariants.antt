use Rattle.std.proofs.Common.{◌≡◌}
use Rattle.worked_threads.proofs.channels.receive_all.Given as goal

abbrev pub invariant-receives : goal.invariant-receives
invariant-receives g l = l.receiver.hub ≡ l.hub.id
