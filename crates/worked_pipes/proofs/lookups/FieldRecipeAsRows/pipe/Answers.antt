use Rattle.std.proofs.Common.{[], refl}
use Rattle.chunk_core.specs.Elements.LoadKind.{Lines, Rows}
use Rattle.pull_nodes.specs.Pipes.{meaning}
use Rattle.pull_nodes.specs.declared.pipe.Pipe.TheVariants as pipe
use Rattle.worked_pipes.proofs.lookups.FieldRecipeAsRows.pipe.Goals as goal

pub returns : goal.returns
returns c = let m = meaning (pipe.Field c.args.self.now.0) Rows Lines in (m, [], c.in_ok-new.ensures m refl, refl)
