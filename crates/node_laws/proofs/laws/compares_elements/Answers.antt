use Rattle.pull_nodes.proofs.Changes.{same_is_equal}
use Rattle.node_laws.proofs.laws.compares_elements.Goals as goal

pub returns : goal.returns
returns c x y = same_is_equal x y
