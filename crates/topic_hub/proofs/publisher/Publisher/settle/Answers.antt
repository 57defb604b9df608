use Rattle.std.proofs.Common.{◌≡◌, ℕ, ◌<◌, List, length, refl, sym, ap, ◌∙◌, subst, arith}
use Rattle.channel_bounded.specs.Ends.{HubSeen}
use Rattle.chunk_core.specs.Totals.{IsAt}
use Rattle.topic_hub.specs.declared.place.Place.{Place}
use Rattle.topic_hub.specs.declared.place.Place.TheVariants as place
use Rattle.topic_hub.specs.Subscribers.{SubscriberSeen}
use Rattle.topic_hub.specs.Topics.{PublisherSeen}
use Rattle.topic_hub.proofs.Every.{at_read, at_within, one_here}
use Rattle.topic_hub.proofs.Settling.{settles_with}
use Rattle.topic_hub.proofs.publisher.Publisher.settle.Goals as goal

pub index_mut-requires : goal.index_mut-requires
index_mut-requires g c =
    let n : c.s.inside.number ≡ c.args.s.number = ap (λ (s : SubscriberSeen). s.number) c.s.view_is in
    let l = at_within c.args.self.now.places c.args.s.number _ c.requires.subscriber.1 in
    let own : length c.self.inside.places.items ≡ length c.args.self.now.places = ap (λ (p : PublisherSeen). length p.places) c.self.view_is in let ok = c.self.inside.places.ok.0 in omega arith

pub unreachable-requires : goal.unreachable-requires
unreachable-requires g c =
    let n : c.s.inside.number ≡ c.args.s.number = ap (λ (s : SubscriberSeen). s.number) c.s.view_is in
    let l = at_within c.args.self.now.places c.args.s.number _ c.requires.subscriber.1 in
    let own : length c.self.inside.places.items ≡ length c.args.self.now.places = ap (λ (p : PublisherSeen). length p.places) c.self.view_is in let ok = c.self.inside.places.ok.0 in
    let at = at_read c.self.inside.places.items c.s.inside.number c.index_mut.result.now (omega arith) c.index_mut.ensures.value in
    let was = one_here c.self.inside.places.items c.args.self.now.places c.s.inside.number c.args.s.number _ _ (ap (λ (p : PublisherSeen). p.places) c.self.view_is) n at c.requires.subscriber.1 in
    c.in_default.not-Taken c.requires.subscriber.0 (c.replace-place.ensures.value ∙ was)

pub index-requires : goal.index-requires
index-requires g c =
    let n : c.s.inside.number ≡ c.args.s.number = ap (λ (s : SubscriberSeen). s.number) c.s.view_is in
    let l = at_within c.args.self.now.places c.args.s.number _ c.requires.subscriber.1 in let same = c.requires.topic.same in
    let own : length c.hub.inside.queues.items ≡ length c.args.hub.now = ap (λ (q : List HubSeen). length q) c.hub.view_is in let ok = c.hub.inside.queues.ok.0 in omega arith

pub join-requires : goal.join-requires
join-requires g c =
    let n : c.s.inside.number ≡ c.args.s.number = ap (λ (s : SubscriberSeen). s.number) c.s.view_is in
    let l = at_within c.args.self.now.places c.args.s.number _ c.requires.subscriber.1 in let same = c.requires.topic.same in
    let own : length c.hub.inside.queues.items ≡ length c.args.hub.now = ap (λ (q : List HubSeen). length q) c.hub.view_is in
    let mine : length c.self.inside.places.items ≡ length c.args.self.now.places = ap (λ (p : PublisherSeen). length p.places) c.self.view_is in
    let queue = subst (λ q. IsAt q c.args.s.number c.index.result.now) c.hub.view_is (subst (λ k. IsAt c.hub.inside.queues.items k c.index.result.now) n (at_read c.hub.inside.queues.items c.s.inside.number c.index.result.now (omega arith) c.index.ensures)) in
    let at = at_read c.self.inside.places.items c.s.inside.number c.index_mut.result.now (omega arith) c.index_mut.ensures.value in
    let taken : c.index_mut.result.now ≡ place.Taken c.in-Taken.seat = sym c.replace-place.ensures.value ∙ c.in-Taken.is in
    let here = subst (λ k. IsAt c.args.self.now.places k (place.Taken c.in-Taken.seat)) n (subst (λ p. IsAt p c.s.inside.number (place.Taken c.in-Taken.seat)) (ap (λ (p : PublisherSeen). p.places) c.self.view_is) (subst (λ x. IsAt c.self.inside.places.items c.s.inside.number x) taken at)) in
    let mine = c.requires.topic.each c.args.s.number c.index.result.now _ queue c.requires.subscriber.1 in
    let fits = c.requires.topic.each c.args.s.number c.index.result.now _ queue here in
    record { fits = (ap (λ (s : SubscriberSeen). s.queue) c.s.view_is ∙ (sym c.requires.subscriber.2 ∙ mine.1), fits.1) }

pub returns : goal.returns
returns g c =
    let n : c.s.inside.number ≡ c.args.s.number = ap (λ (s : SubscriberSeen). s.number) c.s.view_is in
    let l = at_within c.args.self.now.places c.args.s.number _ c.requires.subscriber.1 in let same = c.requires.topic.same in
    let own : length c.hub.inside.queues.items ≡ length c.args.hub.now = ap (λ (q : List HubSeen). length q) c.hub.view_is in
    let mine : length c.self.inside.places.items ≡ length c.args.self.now.places = ap (λ (p : PublisherSeen). length p.places) c.self.view_is in
    let queue = subst (λ q. IsAt q c.args.s.number c.index.result.now) c.hub.view_is (subst (λ k. IsAt c.hub.inside.queues.items k c.index.result.now) n (at_read c.hub.inside.queues.items c.s.inside.number c.index.result.now (omega arith) c.index.ensures)) in
    let at = at_read c.self.inside.places.items c.s.inside.number c.index_mut.result.now (omega arith) c.index_mut.ensures.value in
    let taken : c.index_mut.result.now ≡ place.Taken c.in-Taken.seat = sym c.replace-place.ensures.value ∙ c.in-Taken.is in
    let was = subst (λ x. IsAt c.self.inside.places.items c.s.inside.number x) taken at in
    let places = ap (λ (p : PublisherSeen). p.places) c.self.view_is in
    let here = subst (λ k. IsAt c.args.self.now.places k (place.Taken c.in-Taken.seat)) n (subst (λ p. IsAt p c.s.inside.number (place.Taken c.in-Taken.seat)) places was) in
    let fits = c.requires.topic.each c.args.s.number c.index.result.now _ queue here in
    record {
      settles = settles_with g.A.May.may c.args.self.now _ c.args.s c.in-Taken.seat c.replace-place.new.dest c.self.inside.places.items c.s.inside.number c.s.inside.receiver c.join.new.self _
          n places was (fits.2 ∙ sym n) (ap (λ (s : SubscriberSeen). s.got) c.s.view_is) c.s.invariant.0 c.join.ensures.receiver c.replace-place.ensures.after refl
          (ap (λ (p : PublisherSeen). p.given) c.self.view_is) (ap (λ (p : PublisherSeen). p.ended) c.self.view_is) c.join.ensures.whole;
    }
