use Rattle.flume_cli.proofs.Generating.{case_generated}
use Rattle.flume_cli.proofs.generated.run_ready.Goals as goal

pub returns : goal.returns
returns g c =
    let ready = c.requires.ready in
    case_generated c.args.case _ _ _ _ _ c.run_streams-outcome.result c.text_of-text.result c.requires.limits.0 c.requires.limits.1 ready.plan ready.depot ready.out c.run_streams-outcome.new.depot.unfailed c.run_streams-outcome.ensures c.text_of-text.ensures
