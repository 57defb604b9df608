use Rattle.collector.proofs.Untils.{stops_more, stops_none}
use Rattle.collector.proofs.receive.stop_those_until.Goals as goal

pub loop-i-init : goal.loop-i-init
loop-i-init c = record { stops = stops_none c.args.plan.now c.args.stream c.args.at c.args.stops.now; seated = c.requires.seated }

pub loop-i-preserved : goal.loop-i-preserved
loop-i-preserved c = record {
  stops = stops_more c.args.plan.now c.args.stream c.loop-i.i c.args.at c.args.stops.now c.loop-i.stops c.stop_until.new.stops c.loop-i.invariant.stops c.stop_until.ensures.stops;
  seated = c.stop_until.ensures.seated;
}
