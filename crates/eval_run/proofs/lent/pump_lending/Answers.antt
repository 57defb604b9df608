-- What the sink is in the end is what the scope handed back under its name.
use Rattle.std.proofs.Common.{sym}
use Rattle.eval_run.proofs.lent.pump_lending.Goals as goal

pub returns-clause-pumped : goal.returns-clause-pumped
returns-clause-pumped g c = let r = c.run_scoped-stepper.ensures in rw (c.out-1.given.1 (sym r.name)) r.pumped
