use Rattle.std.proofs.Common.{◌-◌, ◌≤◌, vec_len}
use Rattle.shared_scripts.proofs.crowds.bells.Given as goal

abbrev pub invariant-loop-alloc : goal.invariant-loop-alloc
invariant-loop-alloc l = vec_len l.pays ≤ l.fn.number

abbrev pub decreases-loop-alloc : goal.decreases-loop-alloc
decreases-loop-alloc l = l.fn.number - vec_len l.pays
