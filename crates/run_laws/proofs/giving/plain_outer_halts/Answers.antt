use Rattle.run_laws.proofs.Plain.{plain_halts}
use Rattle.run_laws.proofs.giving.plain_outer_halts.Goals as goal

pub returns : goal.returns
returns c = plain_halts
