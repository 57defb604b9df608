use Rattle.std.proofs.Common.{subst, sym}
use Rattle.stream_jobs.specs.Jobs.{FitsJob}
use Rattle.collector.proofs.collector.Collector.turn.Goals as goal

pub returns-clause-fits : goal.returns-clause-fits
returns-clause-fits g c = subst (λ j. FitsJob g.S.RowSeat.view g.V.Device.told g.S.RowSeat.fits j c.turn.new.desk) (sym c.turn.ensures.same) c.turn.ensures.fits
