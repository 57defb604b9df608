use Rattle.std.proofs.Common.{◌≡◌}
use Rattle.channel_bench.proofs.ends.send_all.Given as goal

abbrev pub invariant-sends : goal.invariant-sends
invariant-sends g l = l.sender.hub ≡ l.hub.id
