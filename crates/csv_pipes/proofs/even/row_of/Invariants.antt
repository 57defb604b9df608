use Rattle.std.proofs.Common.{◌≡◌, ◌≤◌, length, take}
use Rattle.csv.specs.Records.{fields_of}
use Rattle.csv_pipes.proofs.even.row_of.Given as goal

abbrev pub invariant-loop-i : goal.invariant-loop-i
invariant-loop-i l = record { front : take l.i l.fields.items ≡ take l.i (fields_of l.record); within : l.i ≤ length l.fields.items }
