use Rattle.std.proofs.Common.{[], refl}
use Rattle.std.specs.Arc.{arc_value}
use Rattle.std.specs.FinMap.{get}
use Rattle.chunk_core.specs.Elements.LoadKind.{Rows}
use Rattle.chunk_core.specs.Tables.{Values}
use Rattle.pull_nodes.specs.Pipes.{meaning_over}
use Rattle.pull_nodes.specs.declared.pipe.Pipe.TheVariants as pipe
use Rattle.worked_pipes.proofs.lookups.LookupRecipeAsRows.pipe.Goals as goal

pub returns : goal.returns
returns c =
    let values : Values = λ t. get (arc_value c.in_ok-table.table) in
    let m = meaning_over values (pipe.Lookup 0 c.args.self.now.field) Rows Rows in (m, [], c.in_ok-new.ensures values 0 m (λ key. refl) refl, refl)
