use Rattle.desc_laws.proofs.Plans.{accepted_without}
use Rattle.desc_laws.proofs.laws.is_accepted_without_flaws.Goals as goal

pub returns : goal.returns
returns c bytes = accepted_without bytes
