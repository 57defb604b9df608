use Rattle.std.proofs.Common.{[], refl}
use Rattle.chunk_core.specs.Elements.LoadKind.{Rows}
use Rattle.pull_nodes.specs.Pipes.{meaning}
use Rattle.pull_nodes.specs.declared.pipe.Pipe.TheVariants as pipe
use Rattle.worked_pipes.proofs.operators.ChangesRecipeAsRows.pipe.Goals as goal

pub returns : goal.returns
returns c = let m = meaning pipe.Changes Rows Rows in (m, [], c.in_ok-new.ensures m refl, refl)
