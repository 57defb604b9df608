use Rattle.std.proofs.Common.{◌≡◌}
use Rattle.channel_bench.proofs.ends.receive_all.Given as goal

abbrev pub invariant-receipts : goal.invariant-receipts
invariant-receipts g l = l.receiver.hub ≡ l.hub.id
