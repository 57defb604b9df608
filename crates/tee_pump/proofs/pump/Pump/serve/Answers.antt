-- It prints, stops and gives turns.
use Rattle.std.proofs.Common.{length, refl}
use Rattle.tee_pump.specs.declared.pump.Pump.{Pump}
use Rattle.tee_pump.proofs.Served.{served}
use Rattle.tee_pump.proofs.pump.Pump.serve.Goals as goal

pub returns-clause-serving : goal.returns-clause-serving
returns-clause-serving g c = λ ms reader start h.
    let p = c.args.self.now in
    let q : Pump g.row.F.Denot = record { publisher = p.publisher; printer = c.print_all-came.new.printer; seat = c.stop.new.seat; hired = c.turn_all.new.hired; ends = p.ends } in
    served g.F.Feed.stands g.F.Feed.comes (record { topic = c.args.site.now.topic.now; hub = c.args.site.now.hub.now; board = c.args.site.now.board.now }) ms reader start (g.K.Sink.told c.args.out.now) (g.K.Sink.told c.print_all-came.new.out) p q h (c.print_all-came.ensures.printing (length ms) start h.printing) c.print_all-came.ensures.goes_on c.stop.ensures (c.turn_all.ensures ms h.hired) refl
