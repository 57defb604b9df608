-- The end is published, and where the reader wasn't done the run is interrupted.
use Rattle.std.proofs.Common.{inl, inr, refl}
use Rattle.tee_pump.specs.declared.pump.Pump.{Pump}
use Rattle.tee_pump.proofs.Giving.{closed}
use Rattle.tee_pump.proofs.pump.Pump.close.Goals as goal

pub end-requires-clause-pending : goal.end-requires-clause-pending
end-requires-clause-pending g c = (c.requires.pumping.4.whole c.if-not-must_stop.ensures.go).1

pub end-requires-clause-open : goal.end-requires-clause-open
end-requires-clause-open g c = c.requires.pumping.4.goes_on

pub returns-then-not-must_stop-clause-serving : goal.returns-then-not-must_stop-clause-serving
returns-then-not-must_stop-clause-serving g c = λ ms start given now h.
    let p = c.args.self.now in
    let q : Pump g.row.F.Denot = record { publisher = c.end.new.self; printer = p.printer; seat = c.stop_early.new.seat; hired = p.hired; ends = p.ends } in
    closed g.F.Feed.stands g.F.Feed.comes (record { topic = c.args.site.now.topic.now; hub = c.args.site.now.hub.now; board = c.args.site.now.board.now }) ms start given now now p q h c.args.how refl c.stop_early.ensures refl refl

pub returns-then-not-must_stop-clause-closes : goal.returns-then-not-must_stop-clause-closes
returns-then-not-must_stop-clause-closes g c = inl (c.if-not-must_stop.ensures.go, c.end.ensures.publishes)

pub returns-then-not-must_stop-clause-keeps : goal.returns-then-not-must_stop-clause-keeps
returns-then-not-must_stop-clause-keeps g c = c.end.ensures.keeps

pub returns-else-not-must_stop-clause-serving : goal.returns-else-not-must_stop-clause-serving
returns-else-not-must_stop-clause-serving g c = λ ms start given now h.
    let p = c.args.self.now in
    let q : Pump g.row.F.Denot = record { publisher = p.publisher; printer = p.printer; seat = c.stop_early.new.seat; hired = p.hired; ends = p.ends } in
    closed g.F.Feed.stands g.F.Feed.comes (record { topic = c.args.site.now.topic.now; hub = c.args.site.now.hub.now; board = c.args.site.now.board.now }) ms start given now now p q h c.args.how refl c.stop_early.ensures refl refl

pub returns-else-not-must_stop-clause-closes : goal.returns-else-not-must_stop-clause-closes
returns-else-not-must_stop-clause-closes g c = inr refl

pub returns-else-not-must_stop-clause-keeps : goal.returns-else-not-must_stop-clause-keeps
returns-else-not-must_stop-clause-keeps g c = record { topic = λ q h. h; subscribers = λ s h. h }
