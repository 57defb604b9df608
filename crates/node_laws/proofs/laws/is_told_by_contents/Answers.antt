use Rattle.node_laws.proofs.Told.{told}
use Rattle.node_laws.proofs.laws.is_told_by_contents.Goals as goal

pub returns : goal.returns
returns c t v w n ys e same wrote r = told t v w n same wrote ys e r
