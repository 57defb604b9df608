use Rattle.join_report.specs.Stopping.{IsSeated}
use Rattle.collector.specs.Receiving.{StopsThose}
use Rattle.collector.proofs.receive.stop_those_until.Given as goal

-- those before this one were interrupted that are to end with the stream
abbrev pub invariant-loop-i : goal.invariant-loop-i
invariant-loop-i l = record {
  stops : StopsThose l.plan l.stream l.i l.at l.initial.stops l.stops;
  seated : IsSeated l.stops;
}
