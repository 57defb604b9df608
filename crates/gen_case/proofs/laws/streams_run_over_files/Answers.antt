use Rattle.gen_case.proofs.Nodes.{nodes_never_fail, nodes_run_ideal}
use Rattle.gen_case.proofs.laws.streams_run_over_files.Goals as goal

pub returns-clause-ideal : goal.returns-clause-ideal
returns-clause-ideal c = nodes_run_ideal

pub returns-clause-unfailed : goal.returns-clause-unfailed
returns-clause-unfailed c = nodes_never_fail
