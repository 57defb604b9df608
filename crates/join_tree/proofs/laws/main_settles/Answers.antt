use Rattle.join_tree.proofs.Settling.{main_may_finish, main_settles}
use Rattle.join_tree.proofs.laws.main_settles.Goals as goal

pub returns-clause-finish : goal.returns-clause-finish
returns-clause-finish g c = main_may_finish

pub returns-clause-settles : goal.returns-clause-settles
returns-clause-settles g c = main_settles
