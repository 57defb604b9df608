use Rattle.std.proofs.Common.{◌≡◌, ℕ, ◌+◌, ◌<◌, List, [], ◌∷◌, ◌++◌, length, slice_set, None, refl, sym, ap, ◌∙◌, subst, arith}
use Rattle.std.proofs.lemmas.List.{set-set}
use Rattle.chunk_core.specs.Lists.{IsAmong}
use Rattle.chunk_core.specs.Totals.{IsAt}
use Rattle.chunk_core.proofs.Members.{among_nil}
use Rattle.channel_bounded.specs.Ends.{HubSeen, ReceiverSeen, SenderSeen}
use Rattle.topic_hub.specs.declared.place.Place.{Place}
use Rattle.topic_hub.specs.declared.place.Place.TheVariants as place
use Rattle.topic_hub.specs.declared.place.Seat.{Seat}
use Rattle.topic_hub.specs.Topics.{PublisherSeen, unused}
use Rattle.topic_hub.proofs.Every.{at_read, at_some}
use Rattle.topic_hub.proofs.Topics.{free_next, subscribe_keeps, subscribes}
use Rattle.topic_hub.proofs.publisher.Publisher.subscribe.Goals as goal

pub unreachable-requires : goal.unreachable-requires
unreachable-requires g c =
    let n : c.self.inside.given ≡ c.args.self.now.given = ap (λ (p : PublisherSeen). p.given) c.self.view_is in
    let places = ap (λ (p : PublisherSeen). p.places) c.self.view_is in let same = c.requires.topic.same in
    let own : length c.self.inside.places.items ≡ length c.args.self.now.places = ap length places in let ok = c.self.inside.places.ok.0 in let len = c.len.ensures in let test = c.if-at-len.false in
    let at = at_read c.self.inside.places.items c.self.inside.given c.index_mut.result.now (omega arith) c.index_mut.ensures.value in
    let here = subst (λ k. IsAt c.args.self.now.places k c.index_mut.result.now) n (subst (λ p. IsAt p c.self.inside.given c.index_mut.result.now) places at) in
    let queue = at_some c.args.hub.now c.args.self.now.given (omega arith) in
    let free = free_next c.args.hub.now c.args.self.now queue.0 c.index_mut.result.now c.requires.topic queue.1 here in
    c.in_default.not-Free free.0 (c.replace-place.ensures.value ∙ free.1)

pub split-sender-requires-clause-fits : goal.split-sender-requires-clause-fits
split-sender-requires-clause-fits g c =
    let n : c.self.inside.given ≡ c.args.self.now.given = ap (λ (p : PublisherSeen). p.given) c.self.view_is in
    let places = ap (λ (p : PublisherSeen). p.places) c.self.view_is in let same = c.requires.topic.same in
    let own : length c.self.inside.places.items ≡ length c.args.self.now.places = ap length places in let ok = c.self.inside.places.ok.0 in let len = c.len.ensures in let test = c.if-at-len.false in
    let at = at_read c.self.inside.places.items c.self.inside.given c.index_mut.result.now (omega arith) c.index_mut.ensures.value in
    let free : c.index_mut.result.now ≡ place.Free c.in-Free.receiver = sym c.replace-place.ensures.value ∙ c.in-Free.is in
    let here = subst (λ k. IsAt c.args.self.now.places k (place.Free c.in-Free.receiver)) n (subst (λ p. IsAt p c.self.inside.given (place.Free c.in-Free.receiver)) places (subst (λ x. IsAt c.self.inside.places.items c.self.inside.given x) free at)) in
    let queues : length c.hub.inside.queues.items ≡ length c.args.hub.now = ap (λ (q : List HubSeen). length q) c.hub.view_is in
    let queue = subst (λ k. IsAt c.args.hub.now k c.index.result.now) n (subst (λ q. IsAt q c.self.inside.given c.index.result.now) c.hub.view_is (at_read c.hub.inside.queues.items c.self.inside.given c.index.result.now (omega arith) c.index.ensures)) in
    ap (λ (r : ReceiverSeen). r.hub) (c.requires.topic.each c.args.self.now.given c.index.result.now _ queue here).1

pub split-sender-requires-clause-fresh : goal.split-sender-requires-clause-fresh
split-sender-requires-clause-fresh g c =
    let n : c.self.inside.given ≡ c.args.self.now.given = ap (λ (p : PublisherSeen). p.given) c.self.view_is in
    let places = ap (λ (p : PublisherSeen). p.places) c.self.view_is in let same = c.requires.topic.same in
    let own : length c.self.inside.places.items ≡ length c.args.self.now.places = ap length places in let ok = c.self.inside.places.ok.0 in let len = c.len.ensures in let test = c.if-at-len.false in
    let at = at_read c.self.inside.places.items c.self.inside.given c.index_mut.result.now (omega arith) c.index_mut.ensures.value in
    let free : c.index_mut.result.now ≡ place.Free c.in-Free.receiver = sym c.replace-place.ensures.value ∙ c.in-Free.is in
    let here = subst (λ k. IsAt c.args.self.now.places k (place.Free c.in-Free.receiver)) n (subst (λ p. IsAt p c.self.inside.given (place.Free c.in-Free.receiver)) places (subst (λ x. IsAt c.self.inside.places.items c.self.inside.given x) free at)) in
    let queue = at_some c.args.hub.now c.args.self.now.given (omega arith) in
    let made : c.in-Free.receiver.made ≡ [] = ap (λ (r : ReceiverSeen). r.made) (c.requires.topic.each c.args.self.now.given queue.0 _ queue.1 here).1 in
    λ m. among_nil (subst (λ l. IsAmong c.self.inside.given l) made m)

pub invariant_of-result : goal.invariant_of-result
invariant_of-result g c =
    let n : c.self.inside.given ≡ c.args.self.now.given = ap (λ (p : PublisherSeen). p.given) c.self.view_is in
    let places = ap (λ (p : PublisherSeen). p.places) c.self.view_is in let same = c.requires.topic.same in
    let own : length c.self.inside.places.items ≡ length c.args.self.now.places = ap length places in let ok = c.self.inside.places.ok.0 in let len = c.len.ensures in let test = c.if-at-len.false in
    let at = at_read c.self.inside.places.items c.self.inside.given c.index_mut.result.now (omega arith) c.index_mut.ensures.value in
    let free : c.index_mut.result.now ≡ place.Free c.in-Free.receiver = sym c.replace-place.ensures.value ∙ c.in-Free.is in
    let here = subst (λ k. IsAt c.args.self.now.places k (place.Free c.in-Free.receiver)) n (subst (λ p. IsAt p c.self.inside.given (place.Free c.in-Free.receiver)) places (subst (λ x. IsAt c.self.inside.places.items c.self.inside.given x) free at)) in
    let queue = at_some c.args.hub.now c.args.self.now.given (omega arith) in
    let is = (c.requires.topic.each c.args.self.now.given queue.0 _ queue.1 here).1 in
    let become = c.split-sender.ensures.receiver in (
      ap (λ (r : ReceiverSeen). r.made) become ∙ ap (λ (r : ReceiverSeen). r.made ++ c.self.inside.given ∷ []) is,
      ap (λ (r : ReceiverSeen). r.closed) become ∙ ap (λ (r : ReceiverSeen). r.closed) is,
    )

pub returns-clause-some : goal.returns-clause-some
returns-clause-some g c =
    let n : c.self.inside.given ≡ c.args.self.now.given = ap (λ (p : PublisherSeen). p.given) c.self.view_is in
    let places = ap (λ (p : PublisherSeen). p.places) c.self.view_is in let same = c.requires.topic.same in
    let own : length c.self.inside.places.items ≡ length c.args.self.now.places = ap length places in let ok = c.self.inside.places.ok.0 in let len = c.len.ensures in let test = c.if-at-len.false in
    let at = at_read c.self.inside.places.items c.self.inside.given c.index_mut.result.now (omega arith) c.index_mut.ensures.value in
    let free : c.index_mut.result.now ≡ place.Free c.in-Free.receiver = sym c.replace-place.ensures.value ∙ c.in-Free.is in
    let here = subst (λ k. IsAt c.args.self.now.places k (place.Free c.in-Free.receiver)) n (subst (λ p. IsAt p c.self.inside.given (place.Free c.in-Free.receiver)) places (subst (λ x. IsAt c.self.inside.places.items c.self.inside.given x) free at)) in
    let queues : length c.hub.inside.queues.items ≡ length c.args.hub.now = ap (λ (q : List HubSeen). length q) c.hub.view_is in
    let queue = subst (λ k. IsAt c.args.hub.now k c.index.result.now) n (subst (λ q. IsAt q c.self.inside.given c.index.result.now) c.hub.view_is (at_read c.hub.inside.queues.items c.self.inside.given c.index.result.now (omega arith) c.index.ensures)) in
    let is = (c.requires.topic.each c.args.self.now.given c.index.result.now _ queue here).1 in
    let sender = c.split-sender.ensures.sender in let become = c.split-sender.ensures.receiver in
    let seat : Seat = record { sender = c.split-sender.result; pending = None } in
    subscribes c.args.self.now _ c.in-Free.receiver seat here
    (set-set c.self.inside.places.items c.self.inside.given c.replace-place.new.dest (place.Taken seat) ∙ (ap (λ k. slice_set c.self.inside.places.items k (place.Taken seat)) n ∙ ap (λ l. slice_set l c.args.self.now.given (place.Taken seat)) places))
    (ap (λ k. k + 1) n) (ap (λ (s : SenderSeen). s.hub) sender ∙ sym (ap (λ (r : ReceiverSeen). r.hub) is)) (ap (λ (s : SenderSeen). s.stream) sender ∙ n)
    _ c.requires.pending (ap (λ (s : SenderSeen). s.sent) sender) refl (ap (λ (p : PublisherSeen). p.ended) c.self.view_is) n (ap (λ (r : ReceiverSeen). r.hub) become)
    (ap (λ (r : ReceiverSeen). r.got) become ∙ ap (λ (r : ReceiverSeen). r.got) is)

pub returns-clause-keeps : goal.returns-clause-keeps
returns-clause-keeps g c =
    let n : c.self.inside.given ≡ c.args.self.now.given = ap (λ (p : PublisherSeen). p.given) c.self.view_is in
    let places = ap (λ (p : PublisherSeen). p.places) c.self.view_is in let same = c.requires.topic.same in
    let own : length c.self.inside.places.items ≡ length c.args.self.now.places = ap length places in let ok = c.self.inside.places.ok.0 in let len = c.len.ensures in let test = c.if-at-len.false in
    let at = at_read c.self.inside.places.items c.self.inside.given c.index_mut.result.now (omega arith) c.index_mut.ensures.value in
    let free : c.index_mut.result.now ≡ place.Free c.in-Free.receiver = sym c.replace-place.ensures.value ∙ c.in-Free.is in
    let here = subst (λ k. IsAt c.args.self.now.places k (place.Free c.in-Free.receiver)) n (subst (λ p. IsAt p c.self.inside.given (place.Free c.in-Free.receiver)) places (subst (λ x. IsAt c.self.inside.places.items c.self.inside.given x) free at)) in
    let queues : length c.hub.inside.queues.items ≡ length c.args.hub.now = ap (λ (q : List HubSeen). length q) c.hub.view_is in
    let queue = subst (λ k. IsAt c.args.hub.now k c.index.result.now) n (subst (λ q. IsAt q c.self.inside.given c.index.result.now) c.hub.view_is (at_read c.hub.inside.queues.items c.self.inside.given c.index.result.now (omega arith) c.index.ensures)) in
    let is = (c.requires.topic.each c.args.self.now.given c.index.result.now _ queue here).1 in
    let sender = c.split-sender.ensures.sender in let seat : Seat = record { sender = c.split-sender.result; pending = None } in
    subscribe_keeps c.args.self.now _ c.in-Free.receiver seat here
    (set-set c.self.inside.places.items c.self.inside.given c.replace-place.new.dest (place.Taken seat) ∙ (ap (λ k. slice_set c.self.inside.places.items k (place.Taken seat)) n ∙ ap (λ l. slice_set l c.args.self.now.given (place.Taken seat)) places))
    (ap (λ k. k + 1) n) (ap (λ (s : SenderSeen). s.hub) sender ∙ sym (ap (λ (r : ReceiverSeen). r.hub) is)) (ap (λ (s : SenderSeen). s.stream) sender ∙ n)

pub returns-clause-at : goal.returns-clause-at
returns-clause-at g c =
    let n : c.self.inside.given ≡ c.args.self.now.given = ap (λ (p : PublisherSeen). p.given) c.self.view_is in
    let places = ap (λ (p : PublisherSeen). p.places) c.self.view_is in let same = c.requires.topic.same in
    let own : length c.self.inside.places.items ≡ length c.args.self.now.places = ap length places in let ok = c.self.inside.places.ok.0 in let len = c.len.ensures in let test = c.if-at-len.false in
    let at = at_read c.self.inside.places.items c.self.inside.given c.index_mut.result.now (omega arith) c.index_mut.ensures.value in
    let free : c.index_mut.result.now ≡ place.Free c.in-Free.receiver = sym c.replace-place.ensures.value ∙ c.in-Free.is in
    let here = subst (λ k. IsAt c.args.self.now.places k (place.Free c.in-Free.receiver)) n (subst (λ p. IsAt p c.self.inside.given (place.Free c.in-Free.receiver)) places (subst (λ x. IsAt c.self.inside.places.items c.self.inside.given x) free at)) in
    let queues : length c.hub.inside.queues.items ≡ length c.args.hub.now = ap (λ (q : List HubSeen). length q) c.hub.view_is in
    let queue = subst (λ k. IsAt c.args.hub.now k c.index.result.now) n (subst (λ q. IsAt q c.self.inside.given c.index.result.now) c.hub.view_is (at_read c.hub.inside.queues.items c.self.inside.given c.index.result.now (omega arith) c.index.ensures)) in
    let is = (c.requires.topic.each c.args.self.now.given c.index.result.now _ queue here).1 in
    let become = c.split-sender.ensures.receiver in (
      c.index.result.now,
      subst (λ k. IsAt c.args.hub.now k c.index.result.now) (sym n) queue,
      sym (ap (λ (r : ReceiverSeen). r.hub) become ∙ ap (λ (r : ReceiverSeen). r.hub) is),
    )
