use Rattle.tree_laws.proofs.Owed.{owed_stays}
use Rattle.tree_laws.proofs.laws.owed_stays.Goals as goal

pub returns : goal.returns
returns g c = owed_stays
