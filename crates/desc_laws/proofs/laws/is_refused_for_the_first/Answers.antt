use Rattle.desc_laws.proofs.Plans.{refused_first}
use Rattle.desc_laws.proofs.laws.is_refused_for_the_first.Goals as goal

pub returns : goal.returns
returns c bytes r = refused_first bytes r
