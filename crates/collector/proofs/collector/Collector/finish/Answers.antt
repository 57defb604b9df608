-- The job comes back from its thread, or was here, and is run to its end.
use Rattle.std.proofs.Common.{subst}
use Rattle.res_ledger.specs.declared.event.StreamNo.TheVariants.{Inner}
use Rattle.row_seat.specs.Views.{OthersFit}
use Rattle.collector.proofs.collector.Collector.finish.Goals as goal

pub finish-requires-clause-job : goal.finish-requires-clause-job
finish-requires-clause-job g c = let w = c.requires.job in (w.0, c.settle-job.ensures.job w.0 w.1)

pub finish-requires-clause-fits : goal.finish-requires-clause-fits
finish-requires-clause-fits g c = c.settle-job.ensures.fits_desk c.args.desk.now c.requires.fits

pub end-requires-clause-job : goal.end-requires-clause-job
end-requires-clause-job g c = let w = c.requires.job in (w.0, c.finish.ensures.job w.0 (c.settle-job.ensures.job w.0 w.1))

pub returns-clause-ends : goal.returns-clause-ends
returns-clause-ends g c w h = c.end.ensures.leaves w (c.finish.ensures.job w (c.settle-job.ensures.job w h))

pub returns-clause-others : goal.returns-clause-others
returns-clause-others g c = subst (λ k. OthersFit g.S.RowSeat.view g.S.RowSeat.fits (Inner k) c.args.desk.now c.finish.new.desk) c.settle-job.ensures.same.stream c.finish.ensures.others
