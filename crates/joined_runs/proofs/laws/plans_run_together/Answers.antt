use Rattle.joined_runs.proofs.PlansTogether.{plan_together}
use Rattle.joined_runs.proofs.laws.plans_run_together.Goals as goal

pub returns : goal.returns
returns c p lines record_of limits r = plan_together p lines limits record_of r
