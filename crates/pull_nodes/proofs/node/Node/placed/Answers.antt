use Rattle.std.proofs.Common.{rules}
use Rattle.pull_nodes.proofs.Inside.{tied_is_inside}
use Rattle.pull_nodes.proofs.node.Node.placed.Goals as goal

pub returns-then-each_is_used_once : goal.returns-then-each_is_used_once
returns-then-each_is_used_once c = rw (← tied_is_inside) (search rules)
