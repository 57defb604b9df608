use Rattle.run_laws.proofs.Unacceptable.{caused_in_time}
use Rattle.run_laws.proofs.refused.caused_in_time.Goals as goal

pub returns : goal.returns
returns c = caused_in_time
