use Rattle.run_laws.proofs.UnfitLists.{unfit_lists}
use Rattle.run_laws.proofs.refused.unfit_lists.Goals as goal

pub returns : goal.returns
returns c = unfit_lists
