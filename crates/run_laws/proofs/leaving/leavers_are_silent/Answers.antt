use Rattle.run_laws.proofs.Left.{leavers_are_silent}
use Rattle.run_laws.proofs.leaving.leavers_are_silent.Goals as goal

pub returns : goal.returns
returns c = leavers_are_silent
