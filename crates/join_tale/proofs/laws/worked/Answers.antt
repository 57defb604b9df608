use Rattle.join_tale.proofs.Worked.{are_refused, is_worked}
use Rattle.join_tale.proofs.laws.worked.Goals as goal

pub returns-clause-tale : goal.returns-clause-tale
returns-clause-tale c = is_worked

pub returns-clause-refused : goal.returns-clause-refused
returns-clause-refused c = are_refused
