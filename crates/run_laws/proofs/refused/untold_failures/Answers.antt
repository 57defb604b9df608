use Rattle.run_laws.proofs.Untold.{untold}
use Rattle.run_laws.proofs.refused.untold_failures.Goals as goal

pub returns : goal.returns
returns c = untold
