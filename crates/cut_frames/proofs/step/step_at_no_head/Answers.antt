use Rattle.std.proofs.Common.{inr}
use Rattle.res_ledger.proofs.Words.{lacks_none}
use Rattle.cut_frames.proofs.step.step_at_no_head.Goals as goal

pub returns-in-Some : goal.returns-in-Some
returns-in-Some c = (c.requires.digit, c.requires.none, inr (λ a. lacks_none 10 c.args.text.now _ _ a c.in-Some.ensures.1))
