use Rattle.pull_turns.specs.Piping.{standing}
use Rattle.job_runs.proofs.Ended.{jobs_end}
use Rattle.job_runs.proofs.laws.jobs_end.Goals as goal

pub returns : goal.returns
returns g c = jobs_end g.S.RowSeat.view g.V.Device.told (standing g.F.Feed.stands g.F.Feed.comes)
