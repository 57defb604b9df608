use Rattle.join_tree.proofs.Outs.{guests_stay}
use Rattle.join_tree.proofs.laws.guests_stay.Goals as goal

pub returns : goal.returns
returns g c = guests_stay g.row.P.Denot
