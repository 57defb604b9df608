-- One load is published, and is with each branch once it was pushed.
use Rattle.std.proofs.Common.{refl}
use Rattle.chunk_core.specs.declared.code.How.TheVariants as how
use Rattle.channel_bounded.specs.declared.message.Body.TheVariants as body
use Rattle.tee_pump.specs.declared.pump.Pump.{Pump}
use Rattle.tee_pump.proofs.Giving.{given_more, given_none, given_same}
use Rattle.tee_pump.proofs.Published.{published_pending}
use Rattle.tee_pump.proofs.Served.{serving_same}
use Rattle.tee_pump.proofs.pump.Pump.give.Goals as goal

pub returns-then-must_stop-clause-ok : goal.returns-then-must_stop-clause-ok
returns-then-must_stop-clause-ok g c = λ ms start given h. given_none g.F.Feed.stands g.F.Feed.comes (record { topic = c.args.site.now.topic.now; hub = c.args.site.now.hub.now; board = c.args.site.now.board.now }) ms start given (g.K.Sink.told c.args.out.now) (g.K.Sink.told c.args.out.now) c.args.self.now c.args.self.now h c.args.load.now c.requires.kind c.if-must_stop.ensures.stop

pub offer-requires : goal.offer-requires
offer-requires g c = record { pending = (c.requires.pumping.3.whole c.if-must_stop.ensures.go).1 }

pub push_all-requires-clause-serving : goal.push_all-requires-clause-serving
push_all-requires-clause-serving g c =
    let r = c.requires.pumping in
    let p = c.args.self.now in
    let q : Pump g.row.F.Denot = record { publisher = c.offer.new.self; printer = p.printer; seat = p.seat; hired = p.hired; ends = p.ends } in
    (r.0, how.Done, r.1, serving_same g.F.Feed.stands g.F.Feed.comes (record { topic = c.args.site.now.topic.now; hub = c.args.site.now.hub.now; board = c.args.site.now.board.now }) r.0 how.Done r.1 (g.K.Sink.told c.args.out.now) p q refl refl refl refl r.3.serving)

pub push_all-requires-clause-topic : goal.push_all-requires-clause-topic
push_all-requires-clause-topic g c = c.offer.ensures.keeps.topic c.args.site.now.topic.now c.requires.pumping.3.published.topic_is

pub push_all-requires-clause-pending : goal.push_all-requires-clause-pending
push_all-requires-clause-pending g c = published_pending (body.Load c.args.load.now) c.args.self.now.publisher c.offer.new.self c.requires.kind c.in-Ok.ensures.ok.0

pub returns-clause-ok : goal.returns-clause-ok
returns-clause-ok g c = λ ms start given h.
    let p = c.args.self.now in
    let q : Pump g.row.F.Denot = record { publisher = c.offer.new.self; printer = p.printer; seat = p.seat; hired = p.hired; ends = p.ends } in
    let e = c.push_all.ensures in
    given_more g.F.Feed.stands g.F.Feed.comes (record { topic = c.args.site.now.topic.now; hub = c.args.site.now.hub.now; board = c.args.site.now.board.now }) ms start given (g.K.Sink.told c.args.out.now) (g.K.Sink.told c.push_all.new.out) p c.push_all.new.self h c.args.load.now c.offer.new.self c.requires.kind c.if-must_stop.ensures.go c.in-Ok.ensures.ok.0 c.offer.ensures.keeps c.in-Ok.ensures.ok.1
    e.keeps e.due e.ended e.pending e.none (e.serving ms how.Done start (serving_same g.F.Feed.stands g.F.Feed.comes (record { topic = c.args.site.now.topic.now; hub = c.args.site.now.hub.now; board = c.args.site.now.board.now }) ms how.Done start (g.K.Sink.told c.args.out.now) p q refl refl refl refl h.serving))

pub returns-in-Err-Memory-clause-err : goal.returns-in-Err-Memory-clause-err
returns-in-Err-Memory-clause-err g c = λ ms start given h.
    let p = c.args.self.now in
    let q : Pump g.row.F.Denot = record { publisher = c.offer.new.self; printer = p.printer; seat = p.seat; hired = p.hired; ends = p.ends } in
    given_same g.F.Feed.stands g.F.Feed.comes (record { topic = c.args.site.now.topic.now; hub = c.args.site.now.hub.now; board = c.args.site.now.board.now }) ms start given (g.K.Sink.told c.args.out.now) (g.K.Sink.told c.args.out.now) p q h c.in-Err-Memory.ensures.err refl (serving_same g.F.Feed.stands g.F.Feed.comes (record { topic = c.args.site.now.topic.now; hub = c.args.site.now.hub.now; board = c.args.site.now.board.now }) ms how.Done start (g.K.Sink.told c.args.out.now) p q refl refl refl refl h.serving)
