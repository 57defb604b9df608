use Rattle.std.proofs.Common.{◌≡◌, map, take, true}
use Rattle.chunk_core.specs.Elements.{Line, Row}
use Rattle.pull_nodes.specs.Field.{each_made, field_line}
use Rattle.csv_pipes.specs.Made.{made_of}
use Rattle.csv_pipes.proofs.field_pipe.lines_of.Given as goal

abbrev pub invariant-loop-row : goal.invariant-loop-row
invariant-loop-row l = each_made (field_line l.field) (map Row (take l.row-index l.rows)) ≡ made_of (map Line l.lines.items) true
