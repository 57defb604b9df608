use Rattle.pull_nodes.specs.Runs.{Gives, IsIdle, any_leeway}
use Rattle.pull_nodes.proofs.Left.{left}
use Rattle.node_laws.proofs.laws.can_be_left.Goals as goal

pub returns : goal.returns
returns c t w n ys more e h = left (IsIdle w n) (Gives any_leeway t w n) ys more e h
