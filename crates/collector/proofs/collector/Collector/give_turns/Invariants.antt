use Rattle.device_port.specs.Depot.{DepotTold}
use Rattle.device_port.specs.Sink.{SinkTold}
use Rattle.pipeline_desc.specs.Meant.{PlanMeant}
use Rattle.pull_turns.specs.Piping.{standing}
use Rattle.collector.specs.Collecting.{GoesOn, between}
use Rattle.collector.specs.Members.{members}
use Rattle.collector.proofs.collector.Collector.give_turns.Given as goal

-- each turn leaves the collector of a plan one
abbrev pub invariant-turns : goal.invariant-turns
invariant-turns g l = (p : PlanMeant) (depot : DepotTold) (sink : SinkTold)
    → GoesOn (members g.S.RowSeat.view g.V.Device.told g.S.RowSeat.fits g.F.PipeState.values (standing g.F.Feed.stands g.F.Feed.comes)) p (between 1 depot sink l.initial.desk l.initial.self) (between 1 depot sink l.desk l.self)
