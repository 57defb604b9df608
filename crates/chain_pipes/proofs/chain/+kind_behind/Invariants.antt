use Rattle.std.proofs.Common.{length}
use Rattle.chain_pipes.proofs.chain.+kind_behind.Given as goal

abbrev pub decreases-kind_behind : goal.decreases-kind_behind
decreases-kind_behind l = length l.steps.now
