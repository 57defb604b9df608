use Rattle.joined_runs.proofs.WorkedRefused.{are_refused}
use Rattle.joined_runs.proofs.WorkedRun.{is_worked}
use Rattle.joined_runs.proofs.laws.worked.Goals as goal

pub returns-clause-run : goal.returns-clause-run
returns-clause-run c = is_worked

pub returns-clause-refused : goal.returns-clause-refused
returns-clause-refused c = are_refused
