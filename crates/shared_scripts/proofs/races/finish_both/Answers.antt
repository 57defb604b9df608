use Rattle.shared_scripts.proofs.Racing.{may_finish, may_join}
use Rattle.shared_scripts.proofs.races.finish_both.Goals as goal

pub join-requires-clause-can : goal.join-requires-clause-can
join-requires-clause-can g c = may_join _ _ c.requires.closed c.requires.left

pub finish-requires-clause-can : goal.finish-requires-clause-can
finish-requires-clause-can g c = may_finish _ _ c.requires.closed c.requires.left _ c.join.ensures.view
