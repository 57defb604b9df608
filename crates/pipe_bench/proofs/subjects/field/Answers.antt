use Rattle.std.proofs.Common.{[], refl}
use Rattle.chunk_core.specs.Elements.LoadKind.{Lines, Rows}
use Rattle.pull_nodes.specs.Pipes.{meaning}
use Rattle.pull_nodes.specs.declared.pipe.Pipe.TheVariants as pipe
use Rattle.pipe_bench.proofs.subjects.field.Goals as goal

pub run-requires : goal.run-requires
run-requires g c = let m = meaning (pipe.Field 3) Rows Lines in (m, [], c.in_ok-new.ensures m refl, refl)
