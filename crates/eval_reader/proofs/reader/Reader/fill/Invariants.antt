use Rattle.std.proofs.Common.{◌≡◌, ◌<◌, List, []}
use Rattle.chunk_core.specs.Elements.{Element}
use Rattle.pull_stepper.specs.Steppers.{stepping}
use Rattle.pull_stepper.specs.Stepping.{Stepping}
use Rattle.pull_turns.specs.Piping.{standing}
use Rattle.eval_reader.specs.Reading.{IsGrouping, ReaderWorks, seen_reader, work_of}
use Rattle.eval_reader.proofs.reader.Reader.fill.Given as goal

abbrev pub invariant-turns : goal.invariant-turns
invariant-turns g l =
    let told = g.V.Device.told in
    let P = standing g.F.Feed.stands g.F.Feed.comes in
    let old = seen_reader g.S.RowSeat.view g.F.PipeState.values l.fn.self in
    let now = seen_reader g.S.RowSeat.view g.F.PipeState.values l.self in
    record {
      works : ReaderWorks g.S.RowSeat.view told g.S.RowSeat.fits l.self l.desk;
      grouping : (a : Stepping g.row.V.Denot g.row.F.Denot) (groups : List (List Element)) → IsGrouping P told l.size a old groups → IsGrouping P told l.size a now groups;
      none : l.self.gathering.count < l.size → l.self.gathering.lines ≡ [];
    }

-- each turn that goes on leaves less work
abbrev pub decreases-turns : goal.decreases-turns
decreases-turns g l = work_of g.F.PipeState.due (stepping g.S.RowSeat.view g.F.PipeState.values l.self.stepper)
