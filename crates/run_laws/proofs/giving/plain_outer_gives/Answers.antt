use Rattle.run_laws.proofs.Plain.{plain_gives}
use Rattle.run_laws.proofs.giving.plain_outer_gives.Goals as goal

pub returns : goal.returns
returns c = plain_gives
