use Rattle.plan_work.proofs.Plain.{has_one_part}
use Rattle.plan_work.proofs.laws.plain_plans.Goals as goal

pub returns : goal.returns
returns c p lines no_groups no_list = has_one_part p lines no_groups no_list
