use Rattle.tee_prints.proofs.Beginning.{ToldBelow}
use Rattle.tee_prints.proofs.printer.Printer.is_over.Given as goal

abbrev pub invariant-loop-i : goal.invariant-loop-i
invariant-loop-i l = ToldBelow l.fn.self.ends.items l.i
