use Rattle.std.proofs.Common.{◌≡◌, take}
use Rattle.std.specs.List.{sum_by}
use Rattle.pipeline_desc.specs.Places.{row_count}
use Rattle.pipeline_desc.proofs.nodes.rows_of_all.Given as goal

abbrev pub invariant-loop-stream : goal.invariant-loop-stream
invariant-loop-stream l = l.rows ≡ sum_by row_count (take l.stream-index l.streams)
