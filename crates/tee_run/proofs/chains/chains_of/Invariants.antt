use Rattle.std.proofs.Common.{◌≡◌, ◌≤◌, length, vec_capacity}
use Rattle.tee_run.proofs.ChainLaws.{AreFirst}
use Rattle.tee_run.proofs.chains.chains_of.Given as goal

-- a chain for each of the first branches
abbrev pub invariant-loop-steps : goal.invariant-loop-steps
invariant-loop-steps l = record {
  count : length l.chains.items ≡ l.steps-index;
  room : length l.fn.branches ≤ vec_capacity l.chains;
  each : AreFirst l.fn.branches l.chains.items;
}
