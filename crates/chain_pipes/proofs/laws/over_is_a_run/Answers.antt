use Rattle.chain_pipes.proofs.Runs.{over_is_a_run}
use Rattle.chain_pipes.proofs.laws.over_is_a_run.Goals as goal

pub returns : goal.returns
returns c = over_is_a_run
