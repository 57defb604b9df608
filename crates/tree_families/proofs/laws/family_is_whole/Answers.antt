use Rattle.tree_families.proofs.Families.{family_whole}
use Rattle.tree_families.proofs.laws.family_is_whole.Goals as goal

pub returns : goal.returns
returns g c = family_whole
