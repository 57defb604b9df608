use Rattle.pull_nodes.proofs.PipeLaws.{steady}
use Rattle.node_laws.proofs.laws.pipes_are_steady.Goals as goal

pub returns : goal.returns
returns c t p m h = steady t p m h
