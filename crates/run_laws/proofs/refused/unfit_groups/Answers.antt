use Rattle.run_laws.proofs.UnfitGroups.{unfit_groups}
use Rattle.run_laws.proofs.refused.unfit_groups.Goals as goal

pub returns : goal.returns
returns c = unfit_groups
