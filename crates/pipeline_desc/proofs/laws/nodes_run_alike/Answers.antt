use Rattle.pipeline_desc.proofs.RunsAlike as alike
use Rattle.pipeline_desc.proofs.laws.nodes_run_alike.Goals as goal

pub returns : goal.returns
returns c = alike.nodes_run_alike
