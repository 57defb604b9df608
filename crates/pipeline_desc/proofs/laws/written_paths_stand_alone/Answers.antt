use Rattle.pipeline_desc.proofs.Alone as alone
use Rattle.pipeline_desc.proofs.laws.written_paths_stand_alone.Goals as goal

pub returns : goal.returns
returns c = alone.written_alone
