use Rattle.std.specs.Prelude.{◌≡◌}
use Rattle.row_seat.specs.Views.{OthersFit}
use Rattle.pull_stepper.specs.Steppers.{Works, stepping}
use Rattle.stream_jobs.proofs.stepping.see_so_far.Given as goal

-- the stepper is as it was, and fits the desk
abbrev pub invariant-looks : goal.invariant-looks
invariant-looks g l =
    let seen = g.S.RowSeat.view in
    let values = g.F.PipeState.values in
    let agrees = g.S.RowSeat.fits in
    record {
      same : stepping seen values l.stepper ≡ stepping seen values l.initial.stepper;
      fits : Works seen g.V.Device.told agrees l.stepper l.desk;
      others : OthersFit seen agrees (stepping seen values l.initial.stepper).site.tree.seat.by l.initial.desk l.desk;
    }
