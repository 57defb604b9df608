use Rattle.tee_rules.proofs.Whole.{prints_whole}
use Rattle.tee_rules.proofs.laws.prints_whole.Goals as goal

pub returns : goal.returns
returns c = prints_whole
