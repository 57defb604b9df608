use Rattle.std.proofs.Common.{◌≡◌}
use Rattle.pull_turns.specs.Piping.{standing}
use Rattle.pull_turns.specs.Turned.{Spends}
use Rattle.pull_turns.specs.Work.{work_left}
use Rattle.pull_stepper.specs.Held.{FinishesDevice}
use Rattle.pull_stepper.specs.Sites.{Since, around, told_at}
use Rattle.pull_stepper.specs.Steppers.{Works, stepping}
use Rattle.pull_stepper.specs.Stepping.{CanGo}
use Rattle.cat_run.proofs.Printing.{PrintsOn}
use Rattle.cat_run.proofs.print.print_all.Given as goal

abbrev pub invariant-turns : goal.invariant-turns
invariant-turns g l =
    let a = stepping g.S.RowSeat.view g.F.PipeState.values l.fn.stepper in
    let b = stepping g.S.RowSeat.view g.F.PipeState.values l.stepper in
    let told = g.V.Device.told in
    let P = standing g.F.Feed.stands g.F.Feed.comes in
    record {
      fits : Works g.S.RowSeat.view g.V.Device.told g.S.RowSeat.fits l.stepper l.desk;
      since : Since told (FinishesDevice told) a.site b.site;
      can : CanGo P told b;
      tables : b.tables ≡ a.tables;
      chunk : b.chunk ≡ a.chunk;
      spends : Spends (around told a.site) (around told b.site) a.rest b.rest;
      prints : PrintsOn (P a.tables) (told_at told a.site) (told_at told b.site) a.chunk a.rest b.rest 0 (g.K.Sink.told l.fn.out) (g.K.Sink.told l.out);
    }

-- each turn that goes on leaves less work
abbrev pub decreases-turns : goal.decreases-turns
decreases-turns g l = work_left g.F.PipeState.due (stepping g.S.RowSeat.view g.F.PipeState.values l.stepper).rest
