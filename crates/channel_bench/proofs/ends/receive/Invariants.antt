use Rattle.std.proofs.Common.{◌≡◌}
use Rattle.channel_bench.proofs.ends.receive.Given as goal

abbrev pub invariant-tries : goal.invariant-tries
invariant-tries g l = l.receiver ≡ l.initial.receiver
