use Rattle.list_runs.proofs.Timely.{is_timely}
use Rattle.list_runs.proofs.laws.is_timely.Goals as goal

pub returns : goal.returns
returns c = is_timely
