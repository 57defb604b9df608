-- The next message is printed.
use Rattle.tee_pump.proofs.Printing.{below_ends, goes_next, printing_next, room_left}
use Rattle.tee_pump.proofs.serving.print_next.Goals as goal

pub take-requires-clause-branches : goal.take-requires-clause-branches
take-requires-clause-branches g c = below_ends c.args.site.now.hub.now c.requires.0 c.requires.1 (g.K.Sink.told c.args.out.now) c.args.printer.now c.requires.2

pub take-requires-clause-sink : goal.take-requires-clause-sink
take-requires-clause-sink g c = room_left c.args.site.now.hub.now c.requires.0 c.requires.1 (g.K.Sink.told c.args.out.now) c.args.printer.now c.requires.2

pub returns-clause-printing : goal.returns-clause-printing
returns-clause-printing g c = λ n start h. printing_next c.args.site.now.hub.now n start (g.K.Sink.told c.args.out.now) (g.K.Sink.told c.take.new.out) c.args.printer.now c.take.new.self h (c.take.ensures.prints n start h.prints) c.take.ensures.same

pub returns-clause-goes_on : goal.returns-clause-goes_on
returns-clause-goes_on g c = goes_next c.args.printer.now c.take.new.self c.take.result _ c.take.ensures.grows c.take.ensures.empty c.take.ensures.stays
