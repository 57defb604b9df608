use Rattle.std.proofs.Common.{◌≡◌, ◌≤◌, length, take}
use Rattle.csv_pipes.proofs.kept.KeptRows.longer.Given as goal

abbrev pub invariant-loop-i : goal.invariant-loop-i
invariant-loop-i l = record { front : take l.i l.fields.items ≡ take l.i l.row; within : l.i ≤ length l.fields.items }
