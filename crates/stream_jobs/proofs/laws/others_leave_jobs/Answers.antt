use Rattle.pull_turns.specs.Piping.{standing}
use Rattle.stream_jobs.proofs.Others.{others_leave}
use Rattle.stream_jobs.proofs.laws.others_leave_jobs.Goals as goal

pub returns : goal.returns
returns g c = others_leave g.S.RowSeat.view g.F.PipeState.values g.V.Device.told (standing g.F.Feed.stands g.F.Feed.comes) g.S.RowSeat.fits
