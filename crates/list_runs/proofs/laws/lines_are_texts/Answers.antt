use Rattle.list_runs.proofs.Texts.{lines_are_texts}
use Rattle.list_runs.proofs.laws.lines_are_texts.Goals as goal

pub returns : goal.returns
returns c = lines_are_texts
