use Rattle.run_laws.proofs.Given.{rows_rise}
use Rattle.run_laws.proofs.giving.outer_rows_rise.Goals as goal

pub returns : goal.returns
returns c = rows_rise
