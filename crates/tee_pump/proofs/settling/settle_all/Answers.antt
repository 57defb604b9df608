-- One after another is taken in, from the last one on.
use Rattle.std.proofs.Common.{◌≡◌, length, refl, ◌∙◌, subst, arith}
use Rattle.tee_pump.specs.Branches.{SharedSeen}
use Rattle.tee_pump.specs.Settled.{AreSettledFrom, HasTexts, IsSettled}
use Rattle.topic_hub.specs.Topics.{due}
use Rattle.tee_pump.proofs.Joined.{may_settle, settling_more, settling_none, shorter}
use Rattle.tee_pump.proofs.settling.settle_all.Goals as goal

pub loop-last-init : goal.loop-last-init
loop-last-init g c =
    let s : SharedSeen = record { topic = c.args.site.now.topic.now; hub = c.args.site.now.hub.now; board = c.args.site.now.board.now } in
    record {
      settling = λ ms all a p. settling_none g.F.Feed.stands g.F.Feed.comes s ms all c.args.receiver.now.got c.args.hired.items c.args.publisher.now c.args.seat.now.view a p;
      hub = refl;
      got = refl;
      made = refl;
      board_is = refl;
      first = c.requires.seat.1;
      out = c.requires.seat.2;
      set = refl;
      behind = λ l. absurd (omega (arith, l));
    }

pub settle_one-requires-clause-topic : goal.settle_one-requires-clause-topic
settle_one-requires-clause-topic g c =
    let h = c.requires.hired in
    (c.loop-last.invariant.settling h.0 h.1 h.2 h.3).published.topic_is

pub settle_one-requires-clause-hired : goal.settle_one-requires-clause-hired
settle_one-requires-clause-hired g c =
    let s : SharedSeen = record { topic = c.args.site.now.topic.now; hub = c.args.site.now.hub.now; board = c.args.site.now.board.now } in
    let h = c.requires.hired in
    may_settle g.F.Feed.stands g.F.Feed.comes s h.0 h.1 c.args.receiver.now.got c.loop-last.left.items c.pop.new.self.items c.in-Some.last c.loop-last.publisher c.loop-last.seat.view (c.loop-last.invariant.settling h.0 h.1 h.2 h.3) c.in-Some.ensures.items

pub loop-last-preserved : goal.loop-last-preserved
loop-last-preserved g c =
    let s : SharedSeen = record { topic = c.args.site.now.topic.now; hub = c.args.site.now.hub.now; board = c.args.site.now.board.now } in
    let inv = c.loop-last.invariant in
    let one = c.settle_one.ensures in
    let view = c.settle_one.new.seat.view in
    record {
      settling = λ ms all a p. settling_more g.F.Feed.stands g.F.Feed.comes s ms all c.args.receiver.now.got c.loop-last.left.items c.pop.new.self.items c.in-Some.last c.loop-last.publisher c.loop-last.seat.view (inv.settling ms all a p) c.in-Some.ensures.items
          c.settle_one.new.publisher view
          (λ i m h. let z = one.settled i m h in (subst (λ y. IsSettled i m (due c.loop-last.publisher i) y view) inv.got z.0, z.1))
          one.seat.knows;
      hub = one.receiver.hub ∙ inv.hub;
      got = one.receiver.got ∙ inv.got;
      made = one.receiver.made ∙ inv.made;
      board_is = one.seat.board_is ∙ inv.board_is;
      first = one.seat.first ∙ inv.first;
      out =
          let o = one.seat.out in
          let i = inv.out in
          let n = shorter g.F.Feed.stands g.F.Feed.comes s c.loop-last.left.items c.pop.new.self.items c.in-Some.last c.in-Some.ensures.items in
          omega (arith, o, i, n);
      set = one.seat.set ∙ inv.set;
      behind = λ l. (one.seat.all, subst (λ y. HasTexts y c.args.receiver.now.got) inv.made (subst (λ y. HasTexts c.loop-last.receiver.made y) inv.got one.receiver.texts));
    }

pub returns-clause-settled : goal.returns-clause-settled
returns-clause-settled g c = λ ms all a p.
    let ok = c.loop-last.left.ok.0 in
    let none = c.in_default.ensures.cases.0 in
    let empty : length c.loop-last.left.items ≡ 0 = omega (arith, ok, none) in
    subst (λ n. AreSettledFrom n ms all c.args.receiver.now.got c.loop-last.seat.view) empty (c.loop-last.invariant.settling ms all a p).settled

pub returns-clause-texts : goal.returns-clause-texts
returns-clause-texts g c =
    let ok = c.loop-last.left.ok.0 in
    let none = c.in_default.ensures.cases.0 in
    let some = c.requires.some in
    (c.loop-last.invariant.behind (omega (arith, ok, none, some))).1

pub returns-clause-seat : goal.returns-clause-seat
returns-clause-seat g c =
    let ok = c.loop-last.left.ok.0 in
    let none = c.in_default.ensures.cases.0 in
    let some = c.requires.some in
    let out = c.loop-last.invariant.out in
    (c.loop-last.invariant.set, (c.loop-last.invariant.behind (omega (arith, ok, none, some))).0 (omega (arith, ok, none, out)))
