-- What came is printed, one message after another.
use Rattle.tee_pump.proofs.Printing.{goes_then}
use Rattle.tee_pump.proofs.serving.print_all.Goals as goal

pub print_next-requires : goal.print_next-requires
print_next-requires g c = let h = c.requires in (h.0, h.1, c.loop-n.invariant.printing h.0 h.1 h.2)

pub returns-then-not-print_next-clause-printing : goal.returns-then-not-print_next-clause-printing
returns-then-not-print_next-clause-printing g c = λ n start h. c.print_next.ensures.printing n start (c.loop-n.invariant.printing n start h)

pub loop-n-preserved : goal.loop-n-preserved
loop-n-preserved g c = record {
  printing = λ n start h. c.print_next.ensures.printing n start (c.loop-n.invariant.printing n start h);
  on = goes_then c.args.printer.now c.loop-n.printer c.print_next.new.printer c.loop-n.invariant.on c.print_next.ensures.goes_on;
}
