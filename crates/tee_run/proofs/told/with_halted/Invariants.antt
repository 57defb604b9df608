use Rattle.std.proofs.Common.{◌≡◌, ◌+◌, ◌++◌, vec_capacity, vec_len}
use Rattle.tee_run.specs.Telling.{all_halted, ends_from}
use Rattle.tee_run.proofs.told.with_halted.Given as goal

-- so many follow
abbrev pub invariant-loop-number : goal.invariant-loop-number
invariant-loop-number l = record {
  items : l.ends.items ≡ l.fn.ends.items ++ ends_from 0 (all_halted l.number);
  len : vec_len l.ends ≡ vec_len l.fn.ends + l.number;
  room : vec_capacity l.ends ≡ vec_capacity l.fn.ends;
}
