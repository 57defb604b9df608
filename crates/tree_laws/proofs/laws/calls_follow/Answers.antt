use Rattle.tree_laws.proofs.Follows.{called_then}
use Rattle.tree_laws.proofs.laws.calls_follow.Goals as goal

pub returns : goal.returns
returns g c a b d Cs Ds h k = called_then h k
