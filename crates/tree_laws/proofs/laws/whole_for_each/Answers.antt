use Rattle.tree_laws.proofs.Ends.{whole_each}
use Rattle.tree_laws.proofs.laws.whole_for_each.Goals as goal

pub returns : goal.returns
returns c = whole_each
