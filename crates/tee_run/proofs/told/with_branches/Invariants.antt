use Rattle.std.proofs.Common.{◌≡◌, ◌+◌, ◌++◌, take, vec_capacity, vec_len}
use Rattle.tee_run.specs.Telling.{ends_from}
use Rattle.tee_run.proofs.told.with_branches.Given as goal

-- the ends of the first branches follow
abbrev pub invariant-loop-how : goal.invariant-loop-how
invariant-loop-how l = record {
  number : l.number ≡ l.how-index;
  items : l.ends.items ≡ l.fn.ends.items ++ ends_from 0 (take l.how-index l.branches);
  len : vec_len l.ends ≡ vec_len l.fn.ends + l.how-index;
  room : vec_capacity l.ends ≡ vec_capacity l.fn.ends;
}
