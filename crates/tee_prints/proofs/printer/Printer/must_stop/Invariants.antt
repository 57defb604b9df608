use Rattle.tee_prints.proofs.Beginning.{NoStopBelow}
use Rattle.tee_prints.proofs.printer.Printer.must_stop.Given as goal

abbrev pub invariant-loop-i : goal.invariant-loop-i
invariant-loop-i l = NoStopBelow l.fn.self.ends.items l.i
