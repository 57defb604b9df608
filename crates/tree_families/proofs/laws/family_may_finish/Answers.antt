use Rattle.tree_families.proofs.Finishing.{family_may_finish}
use Rattle.tree_families.proofs.laws.family_may_finish.Goals as goal

pub returns : goal.returns
returns g c = family_may_finish
