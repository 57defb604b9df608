use Rattle.flume_cli.proofs.Generating.{unmade_generated}
use Rattle.flume_cli.proofs.generated.generate.Goals as goal

pub returns-in-Err : goal.returns-in-Err
returns-in-Err g c = unmade_generated c.args.case _ _ c.unmade.ensures.ends c.unmade.ensures.ledger
