use Rattle.std.proofs.Common.{◌≡◌, Some, take}
use Rattle.std.specs.List.{flat_map}
use Rattle.csv.specs.Writing.{row_text}
use Rattle.chunk_core.specs.Writing.{IsBetween, written, flexible_writer}
use Rattle.chunk_core.proofs.load.rows_text.Given as goal

abbrev pub invariant-loop-row : goal.invariant-loop-row
invariant-loop-row l = IsBetween l.writer × (written l.writer ≡ Some (flat_map (row_text flexible_writer) (take l.row-index l.rows)))
