use Rattle.std.proofs.Common.{[], refl}
use Rattle.chunk_core.specs.Elements.LoadKind.{Lines}
use Rattle.pull_nodes.specs.Pipes.{meaning}
use Rattle.pull_nodes.specs.declared.pipe.Pipe.TheVariants as pipe
use Rattle.worked_pipes.proofs.operators.CountingRecipe.pipe.Goals as goal

pub returns : goal.returns
returns g c = let m = meaning pipe.Count g.M.Made.kind Lines in (m, [], c.in_ok-new.ensures m refl, refl)
