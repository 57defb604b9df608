use Rattle.std.proofs.Common.{◌≡◌, ◌≤◌, ℕ, Some, length, vec_capacity}
use Rattle.chunk_core.specs.Totals.{IsAt}
use Rattle.chunk_core.specs.declared.code.How.{How}
use Rattle.tee_pump.proofs.ending.tell_all.Given as goal

-- the first ends are there
abbrev pub invariant-loop-i : goal.invariant-loop-i
invariant-loop-i l = record {
  count : length l.ends.items ≡ l.i;
  room : length l.told.items ≤ vec_capacity l.ends;
  each : (i : ℕ) (h : How) → IsAt l.ends.items i h → IsAt l.told.items i (Some h);
}
