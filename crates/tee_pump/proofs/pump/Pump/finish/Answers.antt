-- The branches come to their ends, and are taken in.
use Rattle.std.proofs.Common.{Some, length, sym, ap, ◌∙◌, subst, arith}
use Rattle.chunk_core.specs.Totals.{IsAt}
use Rattle.tee_prints.specs.Printed.{AreAllTold}
use Rattle.tee_prints.specs.declared.printer.PrinterEnd.{PrinterEnd}
use Rattle.tee_pump.specs.Settled.{AreSettledFrom, HasTexts}
use Rattle.tee_pump.specs.declared.ended.TeeEnd.{TeeEnd}
use Rattle.tee_pump.proofs.Giving.{ended_pending, ended_publishing, finished_all, stopped_all}
use Rattle.tee_pump.proofs.Printing.{goes_same, goes_then}
use Rattle.tee_pump.proofs.pump.Pump.finish.Goals as goal

pub close-requires : goal.close-requires
close-requires g c = let r = c.requires.pumping in record { pumping = (r.0, r.1, r.2, g.K.Sink.told c.args.out.now, r.3) }

pub wait_all-requires-clause-serving : goal.wait_all-requires-clause-serving
wait_all-requires-clause-serving g c = let r = c.requires.pumping in (r.0, c.args.how, r.1, c.close.ensures.serving r.0 r.1 r.2 (g.K.Sink.told c.args.out.now) r.3)

pub wait_all-requires-clause-topic : goal.wait_all-requires-clause-topic
wait_all-requires-clause-topic g c = c.close.ensures.keeps.topic c.args.site.now.topic.now c.requires.pumping.3.published.topic_is

pub wait_all-requires-clause-pending : goal.wait_all-requires-clause-pending
wait_all-requires-clause-pending g c = let r = c.requires.pumping in ended_pending g.F.Feed.stands g.F.Feed.comes (record { topic = c.args.site.now.topic.now; hub = c.args.site.now.hub.now; board = c.args.site.now.board.now }) r.0 r.1 r.2 (g.K.Sink.told c.args.out.now) (g.K.Sink.told c.args.out.now) c.args.self c.args.self r.3 c.args.how c.close.new.self.publisher c.close.ensures.closes

pub settle_all-requires-clause-some : goal.settle_all-requires-clause-some
settle_all-requires-clause-some g c = let r = c.requires.pumping in let s = c.wait_all.ensures.serving r.0 c.args.how r.1 (c.close.ensures.serving r.0 r.1 r.2 (g.K.Sink.told c.args.out.now) r.3) in let n = s.hired.count in let m = r.3.some in omega (arith, n, m)

pub settle_all-requires-clause-hired : goal.settle_all-requires-clause-hired
settle_all-requires-clause-hired g c =
    let r = c.requires.pumping in
    let s = c.wait_all.ensures.serving r.0 c.args.how r.1 (c.close.ensures.serving r.0 r.1 r.2 (g.K.Sink.told c.args.out.now) r.3) in
    let e = ended_publishing g.F.Feed.stands g.F.Feed.comes (record { topic = c.args.site.now.topic.now; hub = c.args.site.now.hub.now; board = c.args.site.now.board.now }) r.0 r.1 r.2 (g.K.Sink.told c.args.out.now) (g.K.Sink.told c.wait_all.new.out) c.args.self c.wait_all.new.self r.3 c.args.how c.close.new.self.publisher c.close.ensures.closes c.close.ensures.keeps c.wait_all.ensures.keeps c.wait_all.ensures.due in
    (r.0, e.0, s.hired, e.2)

pub settle_all-requires-clause-receiver : goal.settle_all-requires-clause-receiver
settle_all-requires-clause-receiver g c = let r = c.requires.pumping in let s = c.wait_all.ensures.serving r.0 c.args.how r.1 (c.close.ensures.serving r.0 r.1 r.2 (g.K.Sink.told c.args.out.now) r.3) in ap (λ (x : PrinterEnd). x.receiver.hub) c.end-receiver.ensures ∙ s.printing.hub_is

pub settle_all-requires-clause-seat : goal.settle_all-requires-clause-seat
settle_all-requires-clause-seat g c =
    let r = c.requires.pumping in
    let s = c.wait_all.ensures.serving r.0 c.args.how r.1 (c.close.ensures.serving r.0 r.1 r.2 (g.K.Sink.told c.args.out.now) r.3) in
    let n = s.hired.count in
    let out = s.seat.out in
    (s.seat.board_is, s.seat.first, omega (arith, n, out))

pub tell_all-requires-clause-told : goal.tell_all-requires-clause-told
tell_all-requires-clause-told g c = subst (λ (x : PrinterEnd). AreAllTold x.ends.items) (sym c.end-receiver.ensures) c.wait_all.ensures.told

pub tell_all-requires-clause-empty : goal.tell_all-requires-clause-empty
tell_all-requires-clause-empty g c = let r = c.requires.pumping in let s = c.wait_all.ensures.serving r.0 c.args.how r.1 (c.close.ensures.serving r.0 r.1 r.2 (g.K.Sink.told c.args.out.now) r.3) in s.none_told

pub tell_all-requires-clause-capacity : goal.tell_all-requires-clause-capacity
tell_all-requires-clause-capacity g c = let r = c.requires.pumping in let s = c.wait_all.ensures.serving r.0 c.args.how r.1 (c.close.ensures.serving r.0 r.1 r.2 (g.K.Sink.told c.args.out.now) r.3) in let n = ap (λ (x : PrinterEnd). length x.ends.items) c.end-receiver.ensures in let m = s.printing.prints.branches in let k = s.room in omega (arith, n, m, k)

pub returns-clause-finished : goal.returns-clause-finished
returns-clause-finished g c = λ ms start given h.
    let s = c.wait_all.ensures.serving ms c.args.how start (c.close.ensures.serving ms start given (g.K.Sink.told c.args.out.now) h) in
    let e = ended_publishing g.F.Feed.stands g.F.Feed.comes (record { topic = c.args.site.now.topic.now; hub = c.args.site.now.hub.now; board = c.args.site.now.board.now }) ms start given (g.K.Sink.told c.args.out.now) (g.K.Sink.told c.wait_all.new.out) c.args.self c.wait_all.new.self h c.args.how c.close.new.self.publisher c.close.ensures.closes c.close.ensures.keeps c.wait_all.ensures.keeps c.wait_all.ensures.due in
    let told = c.end-receiver.ensures in
    let t : TeeEnd = record { ends = c.tell_all.result; broken = c.end-receiver.result.broken } in
    let settled = subst (λ (x : PrinterEnd). AreSettledFrom 0 ms e.0 x.receiver.got c.settle_all.new.seat.view) told (c.settle_all.ensures.settled ms e.0 s.hired e.2) in
    let broken = ap (λ (x : PrinterEnd). x.broken) told in
    let count = c.tell_all.ensures.count ∙ ap (λ (x : PrinterEnd). length x.ends.items) told in
    let texts = subst (λ (x : PrinterEnd). HasTexts x.receiver.made x.receiver.got) told c.settle_all.ensures.texts in
    finished_all g.F.Feed.stands g.F.Feed.comes (record { topic = c.args.site.now.topic.now; hub = c.args.site.now.hub.now; board = c.args.site.now.board.now }) ms start given (g.K.Sink.told c.args.out.now) (g.K.Sink.told c.wait_all.new.out) c.args.self c.wait_all.new.self h c.args.how e.0 c.settle_all.new.seat t s e.1 settled texts c.settle_all.ensures.seat.0 c.settle_all.ensures.seat.1 broken count (λ i x at. subst (λ (y : PrinterEnd). IsAt y.ends.items i (Some x)) told (c.tell_all.ensures.each i x at))

pub returns-clause-stopped : goal.returns-clause-stopped
returns-clause-stopped g c = λ m.
    let r = c.requires.pumping in
    let s = c.wait_all.ensures.serving r.0 c.args.how r.1 (c.close.ensures.serving r.0 r.1 r.2 (g.K.Sink.told c.args.out.now) r.3) in
    let e = ended_publishing g.F.Feed.stands g.F.Feed.comes (record { topic = c.args.site.now.topic.now; hub = c.args.site.now.hub.now; board = c.args.site.now.board.now }) r.0 r.1 r.2 (g.K.Sink.told c.args.out.now) (g.K.Sink.told c.wait_all.new.out) c.args.self c.wait_all.new.self r.3 c.args.how c.close.new.self.publisher c.close.ensures.closes c.close.ensures.keeps c.wait_all.ensures.keeps c.wait_all.ensures.due in
    let told = c.end-receiver.ensures in
    let t : TeeEnd = record { ends = c.tell_all.result; broken = c.end-receiver.result.broken } in
    let settled = subst (λ (x : PrinterEnd). AreSettledFrom 0 r.0 e.0 x.receiver.got c.settle_all.new.seat.view) told (c.settle_all.ensures.settled r.0 e.0 s.hired e.2) in
    let broken = ap (λ (x : PrinterEnd). x.broken) told in
    let count = c.tell_all.ensures.count ∙ ap (λ (x : PrinterEnd). length x.ends.items) told in
    let on = goes_then c.args.self.printer c.close.new.self.printer c.wait_all.new.self.printer (goes_same c.args.self.printer c.close.new.self.printer c.close.ensures.same) c.wait_all.ensures.goes_on in
    stopped_all g.F.Feed.stands g.F.Feed.comes (record { topic = c.args.site.now.topic.now; hub = c.args.site.now.hub.now; board = c.args.site.now.board.now }) r.0 r.1 r.2 (g.K.Sink.told c.args.out.now) (g.K.Sink.told c.wait_all.new.out) c.args.self c.wait_all.new.self r.3 c.args.how e.0 c.settle_all.new.seat t s e.1 settled broken count (λ i x at. subst (λ (y : PrinterEnd). IsAt y.ends.items i (Some x)) told (c.tell_all.ensures.each i x at)) on m
