use Rattle.std.proofs.Common.{ℕ}
use Rattle.device_port.specs.Sink.{SinkTold}
use Rattle.tee_pump.specs.Printing.{GoesOn, IsPrinting}
use Rattle.tee_pump.proofs.serving.print_all.Given as goal

-- what came was printed
abbrev pub invariant-loop-n : goal.invariant-loop-n
invariant-loop-n g l = record {
  printing : (n : ℕ) (start : SinkTold) → IsPrinting l.site.hub.now n start (g.K.Sink.told l.fn.out) l.fn.printer → IsPrinting l.site.hub.now n start (g.K.Sink.told l.out) l.printer;
  on : GoesOn l.fn.printer l.printer;
}
