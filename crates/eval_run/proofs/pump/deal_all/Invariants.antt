use Rattle.std.proofs.Common.{◌+◌, ◌≤◌, List, None, length}
use Rattle.chunk_core.specs.Elements.{Element}
use Rattle.chunk_core.specs.declared.load.Load.{Load}
use Rattle.eval_reader.specs.Reading.{IsGrouping, ReaderWorks, seen_reader}
use Rattle.par_eval.specs.declared.work.Worked.{Worked}
use Rattle.pull_stepper.specs.Steppers.{stepping}
use Rattle.pull_turns.specs.Piping.{standing}
use Rattle.eval_run.specs.Pumping.{AreTexts, IsPumping}
use Rattle.eval_run.proofs.pump.deal_all.Given as goal

-- the texts of the groups so far were dealt, and no more are out than there are hands
abbrev pub invariant-groups : goal.invariant-groups
invariant-groups g l =
    let view = g.S.RowSeat.view in
    let values = g.F.PipeState.values in
    record {
      works : ReaderWorks view g.V.Device.told g.S.RowSeat.fits l.reader l.desk;
      pumps : (ds : List Load) × (ws : List Worked) × IsPumping g.W.Work.result_of l.place.work.now l.place.lanes.now l.crew (g.K.Sink.told l.fn.out) (g.K.Sink.told l.out) ds ws None × (length ds ≤ length ws + l.jobs)
          × ((gs : List (List Element)) × AreTexts ds gs × IsGrouping (standing g.F.Feed.stands g.F.Feed.comes) g.V.Device.told l.size (stepping view values l.fn.reader.stepper) (seen_reader view values l.reader) gs);
    }
