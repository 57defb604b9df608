use Rattle.run_laws.proofs.Plain.{plain_lends}
use Rattle.run_laws.proofs.giving.plain_outer_lends.Goals as goal

pub returns : goal.returns
returns c = plain_lends
