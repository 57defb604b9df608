use Rattle.collector.proofs.Untils.{leaves_it, stops_it}
use Rattle.collector.proofs.receive.stop_until.Goals as goal

pub returns-then-ends_with-clause-stops : goal.returns-then-ends_with-clause-stops
returns-then-ends_with-clause-stops c = stops_it c.args.plan.now c.args.stream c.args.i c.args.at c.args.stops.now c.interrupt.new.self (c.ends_with.ensures.yes c.if-ends_with.true) c.interrupt.ensures.marks

pub returns-else-ends_with-clause-stops : goal.returns-else-ends_with-clause-stops
returns-else-ends_with-clause-stops c = leaves_it c.args.plan.now c.args.stream c.args.i c.args.at c.args.stops.now (c.ends_with.ensures.no c.if-ends_with.false)
