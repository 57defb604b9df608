use Rattle.run_laws.proofs.Given.{leases_all}
use Rattle.run_laws.proofs.giving.outer_leases_all.Goals as goal

pub returns : goal.returns
returns c = leases_all
