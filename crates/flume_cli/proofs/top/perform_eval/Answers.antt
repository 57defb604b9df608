-- The lines went through the chain that the word of steps means, and that was told, or it means none.
use Rattle.flume_cli.specs.Chains.{IsChain}
use Rattle.flume_cli.proofs.Branching.{chain_refused, eval_told}
use Rattle.flume_cli.proofs.top.perform_eval.Goals as goal

pub returns-in-Ok : goal.returns-in-Ok
returns-in-Ok g c words source asked = eval_told words source _ _ _ _ _ _ _ _ c.tell.result c.tell.ensures c.args.jobs c.args.group c.args.path.now c.args.steps.now c.in-Ok.chain asked c.in-Ok.ensures.0 c.run_eval-outcome.ensures

pub returns-in-Err : goal.returns-in-Err
returns-in-Err g c words source asked = chain_refused words source _ _ _ _ c.refuse.result IsChain c.args.jobs c.args.group c.args.path.now c.args.steps.now c.in-Err.status asked c.in-Err.ensures c.refuse.ensures
