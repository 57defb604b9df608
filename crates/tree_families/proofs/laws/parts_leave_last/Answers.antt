use Rattle.tree_families.proofs.Leavers.{parts_leave_last}
use Rattle.tree_families.proofs.laws.parts_leave_last.Goals as goal

pub returns : goal.returns
returns g c = parts_leave_last
