use Rattle.std.proofs.Common.{◌≡◌}
use Rattle.channel_bench.proofs.ends.send.Given as goal

abbrev pub invariant-tries : goal.invariant-tries
invariant-tries g l = (l.sender ≡ l.initial.sender) × (l.m.stream ≡ l.sender.stream)
