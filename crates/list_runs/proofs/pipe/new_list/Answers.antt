use Rattle.list_runs.specs.Meant.{list_meaning}
use Rattle.list_runs.proofs.Timely.{gives_lines}
use Rattle.list_runs.proofs.pipe.new_list.Goals as goal

pub returns : goal.returns
returns c d u = c.new.ensures list_meaning d gives_lines c.in_ok-chain.ensures u
