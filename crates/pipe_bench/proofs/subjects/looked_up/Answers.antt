use Rattle.std.proofs.Common.{[], refl}
use Rattle.std.specs.Arc.{arc_value}
use Rattle.std.specs.FinMap.{get}
use Rattle.chunk_core.specs.Elements.LoadKind.{Rows}
use Rattle.chunk_core.specs.Tables.{Values}
use Rattle.pull_nodes.specs.Pipes.{meaning_over}
use Rattle.pull_nodes.specs.declared.pipe.Pipe.TheVariants as pipe
use Rattle.pipe_bench.proofs.subjects.looked_up.Goals as goal

pub run-requires : goal.run-requires
run-requires g c =
    let values : Values = λ t. get (arc_value c.in_ok-table.table) in
    let m = meaning_over values (pipe.Lookup 0 3) Rows Rows in (m, [], c.in_ok-pipe.ensures values 0 m (λ key. refl) refl, refl)
