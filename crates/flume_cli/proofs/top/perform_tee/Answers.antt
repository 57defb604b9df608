-- The branches that the words of steps mean were printed and told, or there are none.
use Rattle.flume_cli.specs.Chains.{AreChains}
use Rattle.flume_cli.proofs.Branching.{branches_refused, tee_told}
use Rattle.flume_cli.proofs.top.perform_tee.Goals as goal

pub returns-in-Ok : goal.returns-in-Ok
returns-in-Ok g c words source asked = tee_told words source _ _ _ _ _ _ _ _ c.tell.result c.tell.ensures c.args.chunk c.args.path.now c.args.branches.now c.in-Ok.chains asked c.in-Ok.ensures.meant.0 c.run_tee-outcome.ensures

pub returns-in-Err : goal.returns-in-Err
returns-in-Err g c words source asked = branches_refused words source _ _ _ _ c.refuse.result AreChains c.args.chunk c.args.path.now c.args.branches.now c.in-Err.status asked c.in-Err.ensures.meant c.refuse.ensures
