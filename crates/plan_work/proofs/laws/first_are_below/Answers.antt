use Rattle.plan_work.proofs.Seen.{first_below}
use Rattle.plan_work.proofs.laws.first_are_below.Goals as goal

pub returns : goal.returns
returns c = first_below
