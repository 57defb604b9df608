-- It was halted as it stood.
use Rattle.std.proofs.Common.{Option, sym}
use Rattle.chunk_core.specs.declared.code.How.{How}
use Rattle.eval_reader.proofs.Stepped.{halted}
use Rattle.eval_reader.proofs.lines.stop.Goals as goal

pub returns-in-None-clause-reading : goal.returns-in-None-clause-reading
returns-in-None-clause-reading g c a given r =
    let e = c.halt.ensures in
    halted _ _ a _ given r (sym {A = Option How} {b = c.args.stepper.now.runner.how} c.in-None.ensures) _ e.since e.halts e.cut
