use Rattle.list_runs.proofs.Runs.{runs_are_list_runs}
use Rattle.list_runs.proofs.laws.runs_are_list_runs.Goals as goal

pub returns : goal.returns
returns c = runs_are_list_runs
