use Rattle.run_laws.proofs.Unacceptable.{unacceptable}
use Rattle.run_laws.proofs.refused.unacceptable.Goals as goal

pub returns : goal.returns
returns c = unacceptable
