use Rattle.std.proofs.Common.{◌≤◌}
use Rattle.pipe_bench.proofs.inputs.lines_of.Given as goal

abbrev pub invariant-loop-at : goal.invariant-loop-at
invariant-loop-at l = l.from ≤ l.at
