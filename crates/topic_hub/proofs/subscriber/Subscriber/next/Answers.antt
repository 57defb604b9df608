use Rattle.std.proofs.Common.{◌≡◌, ℕ, ◌<◌, List, length, sym, ap, ◌∙◌, subst, arith}
use Rattle.chunk_core.specs.Totals.{IsAt}
use Rattle.chunk_core.proofs.Totals.{one_at}
use Rattle.channel_bounded.specs.Ends.{HubSeen}
use Rattle.topic_hub.specs.Subscribers.{SubscriberSeen}
use Rattle.topic_hub.proofs.Every.{at_read, at_within, one_here}
use Rattle.topic_hub.proofs.Settling.{got_first, got_one}
use Rattle.topic_hub.proofs.subscriber.Subscriber.next.Goals as goal

pub index-queue-requires : goal.index-queue-requires
index-queue-requires g c =
    let n : c.self.inside.number ≡ c.args.self.now.number = ap (λ (s : SubscriberSeen). s.number) c.self.view_is in
    let l = at_within c.args.hub.now c.args.self.now.number c.requires.at.0 c.requires.at.1 in
    let own : length c.hub.inside.queues.items ≡ length c.args.hub.now = ap (λ (q : List HubSeen). length q) c.hub.view_is in let ok = c.hub.inside.queues.ok.0 in omega arith

pub try_recv-requires-clause-fits : goal.try_recv-requires-clause-fits
try_recv-requires-clause-fits g c =
    let n : c.self.inside.number ≡ c.args.self.now.number = ap (λ (s : SubscriberSeen). s.number) c.self.view_is in
    let l = at_within c.args.hub.now c.args.self.now.number c.requires.at.0 c.requires.at.1 in
    let own : length c.hub.inside.queues.items ≡ length c.args.hub.now = ap (λ (q : List HubSeen). length q) c.hub.view_is in let ok = c.hub.inside.queues.ok.0 in
    let at = at_read c.hub.inside.queues.items c.self.inside.number c.index-queue.result.now (omega arith) c.index-queue.ensures in
    ap (λ (s : SubscriberSeen). s.queue) c.self.view_is ∙ (sym c.requires.at.2 ∙ sym (ap (λ (q : HubSeen). q.id) (one_here c.hub.inside.queues.items c.args.hub.now c.self.inside.number c.args.self.now.number _ _ c.hub.view_is n at c.requires.at.1)))

pub returns-clause-got : goal.returns-clause-got
returns-clause-got g c = got_one g.A.May.may c.self.inside.number c.args.self.now c.self.inside.receiver c.try_recv.new.self c.in_ok-message.message c.self.view_is c.self.invariant c.in_ok-message.ensures.got c.in_ok-message.ensures.first

pub returns-clause-first : goal.returns-clause-first
returns-clause-first g c = got_first g.A.May.may c.self.inside.number c.args.self.now c.self.inside.receiver c.in_ok-message.message c.self.view_is c.self.invariant c.in_ok-message.ensures.first
