-- The description that was read was run and told, or it wasn't read.
use Rattle.flume_cli.proofs.Calling.{run_told, stopped_told}
use Rattle.flume_cli.proofs.top.perform_run.Goals as goal

pub returns-in-Ok : goal.returns-in-Ok
returns-in-Ok g c words asked = run_told words c.args.max_open _ _ _ _ _ _ _ _ _ _ c.tell.result c.in-Ok.plan c.with_most-plan.result asked c.in-Ok.ensures c.with_most-plan.ensures c.run_streams-outcome.ensures c.tell.ensures

pub returns-in-Err : goal.returns-in-Err
returns-in-Err g c words asked = stopped_told words _ _ _ _ _ _ c.in-Err.status c.args.max_open c.refuse.result asked c.in-Err.ensures c.refuse.ensures
