use Rattle.chain_pipes.proofs.Steady.{chains_are_steady}
use Rattle.chain_pipes.proofs.laws.chains_are_steady.Goals as goal

pub returns : goal.returns
returns c = chains_are_steady
