-- The branch that comes back is the one that was begun, so all its ends are taken in where they belong.
use Rattle.std.proofs.Common.{◌≡◌, ◌∙◌, sym, ap, subst}
use Rattle.interrupt_ctx.specs.Ends.{SeatSeen}
use Rattle.channel_bounded.specs.Ends.{SenderSeen}
use Rattle.topic_hub.specs.Subscribers.{SubscriberSeen}
use Rattle.topic_hub.specs.Topics.{IsSubscriber}
use Rattle.tee_pump.specs.Branches.{SharedSeen}
use Rattle.tee_pump.proofs.Joined.{back_at, back_board, back_hub, back_number, seat_joined, settled_one}
use Rattle.tee_pump.proofs.Ready.{is_ready}
use Rattle.tee_pump.proofs.settling.settle_one.Goals as goal

pub settle-branch-requires : goal.settle-branch-requires
settle-branch-requires g c =
    let s : SharedSeen = record { topic = c.args.site.now.topic.now; hub = c.args.site.now.hub.now; board = c.args.site.now.board.now } in
    let h = c.requires.hired in
    record { at = (h.2.0, h.2.2, is_ready g.F.Feed.stands g.F.Feed.comes s h.0 h.1 h.2.0 h.2.1) }

pub end-source-requires-clause-branch : goal.end-source-requires-clause-branch
end-source-requires-clause-branch g c =
    let h = c.requires.hired in
    (h.1, (c.settle-branch.ensures.back h.2.0 h.2.2).branch h.1 h.2.1.branch)

pub settle-requires-clause-subscriber : goal.settle-requires-clause-subscriber
settle-requires-clause-subscriber g c =
    let s : SharedSeen = record { topic = c.args.site.now.topic.now; hub = c.args.site.now.hub.now; board = c.args.site.now.board.now } in
    let h = c.requires.hired in
    let b = c.settle-branch.result in
    let back = c.settle-branch.ensures.back h.2.0 h.2.2 in
    subst (λ (t : SubscriberSeen). IsSubscriber c.args.publisher.now t) (sym c.end-source.ensures.parts.0)
    (h.3 b.source
    (back_number g.F.Feed.stands g.F.Feed.comes s h.0 h.1 h.2.0 b h.2.1 back)
    (back_at g.F.Feed.stands g.F.Feed.comes s h.0 h.1 h.2.0 b h.2.1 back))

pub join-requires : goal.join-requires
join-requires g c =
    let s : SharedSeen = record { topic = c.args.site.now.topic.now; hub = c.args.site.now.hub.now; board = c.args.site.now.board.now } in
    let h = c.requires.hired in
    let b = c.settle-branch.result in
    let back = c.settle-branch.ensures.back h.2.0 h.2.2 in
    record { fits = (c.requires.receiver, ap (λ (x : SenderSeen). x.hub) c.end-source.ensures.parts.2 ∙ back_hub g.F.Feed.stands g.F.Feed.comes s h.0 h.1 h.2.0 b h.2.1 back) }

pub join-requires-2-clause-fits : goal.join-requires-2-clause-fits
join-requires-2-clause-fits g c =
    let s : SharedSeen = record { topic = c.args.site.now.topic.now; hub = c.args.site.now.hub.now; board = c.args.site.now.board.now } in
    let h = c.requires.hired in
    let b = c.settle-branch.result in
    let back = c.settle-branch.ensures.back h.2.0 h.2.2 in
    (c.requires.seat.0, ap (λ (x : SeatSeen). x.board) c.end-source.ensures.parts.1 ∙ back_board g.F.Feed.stands g.F.Feed.comes s h.0 h.1 h.2.0 b h.2.1 back)

pub returns-clause-settled : goal.returns-clause-settled
returns-clause-settled g c = λ i m h.
    let s : SharedSeen = record { topic = c.args.site.now.topic.now; hub = c.args.site.now.hub.now; board = c.args.site.now.board.now } in
    let b = c.settle-branch.result in
    let e = c.end-source.result in
    let back = c.settle-branch.ensures.back h.0 h.2 in
    let number : e.source.number ≡ i = ap (λ (x : SubscriberSeen). x.number) c.end-source.ensures.parts.0 ∙ back_number g.F.Feed.stands g.F.Feed.comes s i m h.0 b h.1 back in
    let ends = c.end-source.ensures.ends m (back.branch m h.1.branch) in
    let w = c.settle.ensures.settles in
    let j = c.join.ensures.whole in
    (settled_one i m e c.args.publisher.now c.settle.new.self c.args.receiver.now.got j.0 c.args.seat.now c.join-2.new.self number ends w j.1 c.join-2.ensures.this, (e.source, number, w))

pub returns-clause-seat : goal.returns-clause-seat
returns-clause-seat g c =
    let h = c.requires.hired in
    let back = c.settle-branch.ensures.back h.2.0 h.2.2 in
    let ends = c.end-source.ensures.ends h.1 (back.branch h.1 h.2.1.branch) in
    seat_joined c.args.seat.now c.join-2.new.self c.end-source.result.board.view ends.none_set c.join-2.ensures.this c.join-2.ensures.all
