use Rattle.std.proofs.Common.{arith}
use Rattle.gen_case.proofs.Frames.{back_taken, payload_taken, payload_within}
use Rattle.gen_case.proofs.tally.payload_of.Goals as goal

pub returns-then-size-text-clause-parts : goal.returns-then-size-text-clause-parts
returns-then-size-text-clause-parts c = λ payload back n e. payload_within c.args.text.now payload back c.args.size n e (omega arith)

pub returns-clause-parts : goal.returns-clause-parts
returns-clause-parts c = λ payload back n e. (payload_taken c.args.text.now payload back c.args.size n e, back_taken c.args.text.now payload back c.args.size n e)
