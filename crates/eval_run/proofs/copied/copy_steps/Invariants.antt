use Rattle.std.proofs.Common.{◌≡◌, take}
use Rattle.eval_run.proofs.copied.copy_steps.Given as goal

-- the first of them were copied
abbrev pub invariant-loop-step : goal.invariant-loop-step
invariant-loop-step l = l.copy.items ≡ take l.step-index l.step-items
