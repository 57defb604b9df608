use Rattle.std.proofs.Common.{sym}
use Rattle.text_pipes.proofs.LossyTails.{text_is_finished}
use Rattle.text_pipes.proofs.lossy.ends_within.Goals as goal

pub returns-in-Ok : goal.returns-in-Ok
returns-in-Ok c = sym (text_is_finished c.args.bytes.now c.in-Ok.ensures.cases.1)
