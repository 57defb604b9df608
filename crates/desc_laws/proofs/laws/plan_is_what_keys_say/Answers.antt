use Rattle.desc_laws.proofs.Plans.{plan_said}
use Rattle.desc_laws.proofs.laws.plan_is_what_keys_say.Goals as goal

pub returns : goal.returns
returns c bytes p e = plan_said bytes p e
