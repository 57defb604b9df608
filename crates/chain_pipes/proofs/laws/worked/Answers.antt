use Rattle.chain_pipes.proofs.Runs.{worked}
use Rattle.chain_pipes.proofs.laws.worked.Goals as goal

pub returns : goal.returns
returns c = worked
