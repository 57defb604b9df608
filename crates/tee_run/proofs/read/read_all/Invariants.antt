use Rattle.chunk_core.specs.Feed.{Meaning}
use Rattle.device_port.specs.Sink.{SinkTold}
use Rattle.pull_stepper.specs.Steppers.{Works, stepping}
use Rattle.pull_stepper.specs.Stepping.{Stepping}
use Rattle.pull_turns.specs.Piping.{standing}
use Rattle.tee_pump.specs.Branches.{SharedSeen}
use Rattle.tee_run.specs.Reading.{IsTeeing}
use Rattle.std.proofs.Common.{List}
use Rattle.tee_run.proofs.read.read_all.Given as goal

-- what came since goes on as it began
abbrev pub invariant-turns : goal.invariant-turns
invariant-turns g l =
    let P = standing g.F.Feed.stands g.F.Feed.comes in
    let told = g.V.Device.told in
    let shared : SharedSeen = record { topic = l.site.topic.now; hub = l.site.hub.now; board = l.site.board.now } in
    record {
      works : Works g.S.RowSeat.view told g.S.RowSeat.fits l.stepper l.desk;
      goes : (a : Stepping g.row.V.Denot g.row.F.Denot) (ms : List Meaning) (start : SinkTold) → IsTeeing P told g.C.Feed.stands g.C.Feed.comes shared ms start a (stepping g.S.RowSeat.view g.F.PipeState.values l.fn.stepper) (g.K.Sink.told l.fn.out) l.fn.pump
          → IsTeeing P told g.C.Feed.stands g.C.Feed.comes shared ms start a (stepping g.S.RowSeat.view g.F.PipeState.values l.stepper) (g.K.Sink.told l.out) l.pump;
    }
