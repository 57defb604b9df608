use Rattle.job_runs.proofs.Begins.{origins_begin}
use Rattle.job_runs.proofs.laws.origins_begin.Goals as goal

pub returns : goal.returns
returns g c = origins_begin g.V.Device.told
