use Rattle.std.proofs.Common.{◌≡◌, ◌++◌, map}
use Rattle.std.specs.Iterator.Adapters.{zip_first, zip_second}
use Rattle.std.specs.Slice.Iter.{iter_rest}
use Rattle.chunk_core.specs.Elements.{Line, Row}
use Rattle.pull_nodes.specs.Pairs.{pairs_of}
use Rattle.stream_sides.proofs.zip_state.rows_of.Given as goal

abbrev pub invariant-loop-left : goal.invariant-loop-left
invariant-loop-left l =
    map Row l.rows.items ++ pairs_of (map Line (iter_rest (zip_first l.left-iterator))) (map Line (iter_rest (zip_second l.left-iterator)))
    ≡ pairs_of (map Line l.lefts) (map Line l.rights)
