-- What the sink is in the end is what the scope handed back under its name.
use Rattle.std.proofs.Common.{sym}
use Rattle.tee_run.proofs.scoped.run_branches.Goals as goal

pub returns-clause-teed : goal.returns-clause-teed
returns-clause-teed g c = λ a ms stepped runs crew. let r = c.run_scoped-stepper.ensures in rw (c.out-1.given.1 (sym r.names)) (r.teed a ms stepped runs crew)
