use Rattle.tee_prints.proofs.Beginning.{Untold}
use Rattle.tee_prints.proofs.printer.Printer.new.Given as goal

abbrev pub invariant-loop-i : goal.invariant-loop-i
invariant-loop-i l = Untold l.i l.ends.items
