use Rattle.join_tree.proofs.Leavers.{streams_leave_last}
use Rattle.join_tree.proofs.laws.streams_leave_last.Goals as goal

pub returns : goal.returns
returns g c = streams_leave_last g.row.P.Denot
