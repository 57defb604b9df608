use Rattle.std.proofs.Common.{[], refl}
use Rattle.pull_nodes.specs.Pipes.{meaning}
use Rattle.pull_nodes.specs.declared.pipe.Pipe.TheVariants as pipe
use Rattle.worked_pipes.proofs.operators.DroppingRecipe.pipe.Goals as goal

pub returns : goal.returns
returns g c = let m = meaning (pipe.Drop c.args.self.now.0) g.M.Made.kind g.M.Made.kind in (m, [], c.in_ok-new.ensures m refl, refl)
