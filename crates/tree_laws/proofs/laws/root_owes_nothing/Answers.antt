use Rattle.tree_laws.proofs.Owed.{root_owes_nothing}
use Rattle.tree_laws.proofs.laws.root_owes_nothing.Goals as goal

pub returns : goal.returns
returns g c = root_owes_nothing g.S.RowSeat.view
