use Rattle.std.proofs.Common.{◌≡◌, ◌≤◌, flat_map}
use Rattle.chunk_core.specs.Elements.{elements}
use Rattle.pull_turns.specs.Led.{Led}
use Rattle.pull_turns.specs.Piping.{standing}
use Rattle.pull_turns.specs.Turned.{Spends}
use Rattle.row_seat.specs.Views.{OthersFit}
use Rattle.pull_stepper.specs.Held.{FinishesDevice}
use Rattle.pull_stepper.specs.Sites.{Since, around, told_at}
use Rattle.pull_stepper.specs.Steppers.{Works, stepping}
use Rattle.pull_stepper.specs.Stepping.{CanGo}
use Rattle.worked_nodes.proofs.uses.gather.Given as goal

abbrev pub invariant-loop-ask : goal.invariant-loop-ask
invariant-loop-ask g l =
    let P = standing g.F.Feed.stands g.F.Feed.comes in let values = g.F.PipeState.values in let told = g.V.Device.told in let view = g.S.RowSeat.view in
    let a = stepping view values l.fn.stepper in let b = stepping view values l.stepper in
    record {
      quiet : l.quiet ≤ l._ask;
      fits : Works view told g.S.RowSeat.fits l.stepper l.desk;
      can : CanGo P told b;
      tables : b.tables ≡ a.tables;
      led : Led (P a.tables) (told_at told a.site) (told_at told b.site) a.rest b.rest (flat_map elements l.out.items);
      spends : Spends (around told a.site) (around told b.site) a.rest b.rest;
      since : Since told (FinishesDevice told) a.site b.site;
      others : OthersFit view g.S.RowSeat.fits a.site.tree.seat.by l.fn.desk l.desk;
    }
