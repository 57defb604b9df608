use Rattle.list_runs.proofs.Timely.{gives_lines}
use Rattle.list_runs.proofs.laws.gives_lines.Goals as goal

pub returns : goal.returns
returns c = gives_lines
