use Rattle.res_ledger.specs.declared.event.StreamNo.TheVariants.{Inner}
use Rattle.row_seat.specs.Views.{OthersFit}
use Rattle.pull_turns.specs.Piping.{standing}
use Rattle.stream_jobs.specs.Jobs.{FitsJob, IsJob, IsSameJob, seen_job}
use Rattle.stream_jobs.proofs.job.Job.finish.Given as goal

-- it stays the job that it was, and fits the desk
abbrev pub invariant-turns : goal.invariant-turns
invariant-turns g l =
    let view = g.S.RowSeat.view in
    let values = g.F.PipeState.values in
    let told = g.V.Device.told in
    let P = standing g.F.Feed.stands g.F.Feed.comes in
    record {
      job : (w : _) → IsJob view values told P w l.initial.self → IsJob view values told P w l.self;
      same : IsSameJob (seen_job view values l.initial.self) (seen_job view values l.self);
      fits : FitsJob view told g.S.RowSeat.fits l.self l.desk;
      others : OthersFit view g.S.RowSeat.fits (Inner l.initial.self.sender.stream) l.initial.desk l.desk;
    }
