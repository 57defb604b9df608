use Rattle.std.proofs.Common.{refl, ◌++◌}
use Rattle.chunk_core.specs.Elements.{elements}
use Rattle.chunk_core.specs.Elements.LoadKind.{Bytes, Rows}
use Rattle.chunk_core.specs.declared.load.Load.TheVariants as load
use Rattle.pull_nodes.specs.Pipes.{meaning}
use Rattle.pull_nodes.specs.declared.pipe.Pipe.TheVariants as pipe
use Rattle.csv_bench.proofs.stream.gather.Goals as goal

pub feed-requires : goal.feed-requires
feed-requires g c = (meaning pipe.Csv Bytes Rows, c.pieces.invariant.0, c.pieces.invariant.1, refl)

pub pieces-preserved : goal.pieces-preserved
pieces-preserved g c =
    let m = meaning pipe.Csv Bytes Rows in
    let (xs, stands) = c.pieces.invariant in
    let fed = rw c.in-Out.is at c.in_ok-feed.ensures m xs stands refl in (xs ++ elements (load.Bytes c.in_ok-piece.piece), fed.1)
