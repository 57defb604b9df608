use Rattle.tree_families.proofs.Families.{family_shelves}
use Rattle.tree_families.proofs.laws.shelves_of_family_are_apart.Goals as goal

pub returns : goal.returns
returns g c = family_shelves
