use Rattle.std.proofs.Common.{◌≡◌, ℕ, ◌+◌, ◌<◌, ◌≤◌, List, length, slice_set, refl, sym, ap, ◌∙◌, subst, arith}
use Rattle.chunk_core.specs.Totals.{IsAt}
use Rattle.channel_bounded.specs.Ends.{HubSeen}
use Rattle.topic_hub.specs.declared.publisher.Pushed.{Pushed}
use Rattle.topic_hub.specs.Places.{Every}
use Rattle.topic_hub.specs.Topics.{PublisherSeen}
use Rattle.topic_hub.proofs.Every.{along_more, along_whole, at_read}
use Rattle.topic_hub.proofs.Pushing.{Answered, WasPushed, answered, pushes_all, pushing_keeps}
use Rattle.topic_hub.proofs.Topics.{fit_number, fit_sender}
use Rattle.topic_hub.proofs.publisher.Publisher.push.Goals as goal

pub push-requires-clause-sender : goal.push-requires-clause-sender
push-requires-clause-sender g c =
    let inv = c.loop-i.invariant in let along = inv.0.same in let own = ap (λ (p : PublisherSeen). length p.places) c.self.view_is in let same = c.requires.topic.same in
    let ok = c.self.inside.places.ok.0 in let end = c.len-i-end.ensures in let test = c.loop-i-test.true in
    let queues : length c.hub.inside.queues.items ≡ length c.args.hub.now = ap (λ (q : List HubSeen). length q) c.hub.view_is in
    let queue = subst (λ q. IsAt q c.loop-i.i c.index.result.now) c.hub.view_is (at_read c.hub.inside.queues.items c.loop-i.i c.index.result.now (omega arith) c.index.ensures) in
    let here = inv.0.rest c.loop-i.i c.index_mut.result.now (omega arith) (at_read c.loop-i.self-inside.places.items c.loop-i.i c.index_mut.result.now (omega arith) c.index_mut.ensures.value) in
    fit_sender c.args.self.now.given c.loop-i.i c.index.result.now c.index_mut.result.now (c.requires.topic.each c.loop-i.i c.index.result.now c.index_mut.result.now queue here)

pub push-requires-clause-may : goal.push-requires-clause-may
push-requires-clause-may g c =
    let inv = c.loop-i.invariant in let along = inv.0.same in let own = ap (λ (p : PublisherSeen). length p.places) c.self.view_is in let same = c.requires.topic.same in
    let ok = c.self.inside.places.ok.0 in let end = c.len-i-end.ensures in let test = c.loop-i-test.true in
    let queues : length c.hub.inside.queues.items ≡ length c.args.hub.now = ap (λ (q : List HubSeen). length q) c.hub.view_is in
    let queue = subst (λ q. IsAt q c.loop-i.i c.index.result.now) c.hub.view_is (at_read c.hub.inside.queues.items c.loop-i.i c.index.result.now (omega arith) c.index.ensures) in
    let here = inv.0.rest c.loop-i.i c.index_mut.result.now (omega arith) (at_read c.loop-i.self-inside.places.items c.loop-i.i c.index_mut.result.now (omega arith) c.index_mut.ensures.value) in
    c.requires.may c.loop-i.i c.index.result.now c.index_mut.result.now queue here

pub loop-i-preserved : goal.loop-i-preserved
loop-i-preserved g c =
    let inv = c.loop-i.invariant in let along = inv.0.same in let own = ap (λ (p : PublisherSeen). length p.places) c.self.view_is in let same = c.requires.topic.same in
    let ok = c.self.inside.places.ok.0 in let end = c.len-i-end.ensures in let test = c.loop-i-test.true in let may = g.A.May.may in
    let queues : length c.hub.inside.queues.items ≡ length c.args.hub.now = ap (λ (q : List HubSeen). length q) c.hub.view_is in
    let queue = subst (λ q. IsAt q c.loop-i.i c.index.result.now) c.hub.view_is (at_read c.hub.inside.queues.items c.loop-i.i c.index.result.now (omega arith) c.index.ensures) in
    let at = at_read c.loop-i.self-inside.places.items c.loop-i.i c.index_mut.result.now (omega arith) c.index_mut.ensures.value in
    let here = inv.0.rest c.loop-i.i c.index_mut.result.now (omega arith) at in
    let number = fit_number c.args.self.now.given c.loop-i.i c.index.result.now c.index_mut.result.now (c.requires.topic.each c.loop-i.i c.index.result.now c.index_mut.result.now queue here) in (
      along_more (WasPushed may c.args.hub.now) c.loop-i.i c.args.self.now.places c.loop-i.self-inside.places.items c.index_mut.result.now c.push.new.self inv.0 at
          (record { queue = c.index.result.now; at = queue; number = number; pushed = c.push.result; pushes = c.push.ensures.pushes }),
      subst (λ (r : Pushed). Answered may c.args.hub.now (c.loop-i.i + 1) c.args.self.now.places (slice_set c.loop-i.self-inside.places.items c.loop-i.i c.push.new.self) r) (sym c.and-pushed.ensures)
          (answered may c.args.hub.now c.loop-i.i c.args.self.now.places c.loop-i.self-inside.places.items c.index_mut.result.now c.push.new.self c.index.result.now c.loop-i.pushed c.push.result inv.1 here at queue number c.push.ensures.pushes),
      inv.2,
      inv.3,
    )

pub returns-clause-pushes : goal.returns-clause-pushes
returns-clause-pushes g c =
    let inv = c.loop-i.invariant in let own = ap (λ (p : PublisherSeen). length p.places) c.self.view_is in
    let ok = c.self.inside.places.ok.0 in let end = c.len-i-end.ensures in let test = c.loop-i-test.false in
    pushes_all g.A.May.may c.args.hub.now c.args.self.now _ (along_whole (WasPushed g.A.May.may c.args.hub.now) c.loop-i.i c.args.self.now.places c.loop-i.self-inside.places.items inv.0 (omega arith)) inv.2 inv.3 c.loop-i.i (omega arith) c.loop-i.pushed inv.1

pub returns-clause-keeps : goal.returns-clause-keeps
returns-clause-keeps g c =
    let inv = c.loop-i.invariant in let own = ap (λ (p : PublisherSeen). length p.places) c.self.view_is in
    let ok = c.self.inside.places.ok.0 in let end = c.len-i-end.ensures in let test = c.loop-i-test.false in
    pushing_keeps g.A.May.may c.args.hub.now c.args.self.now _ (along_whole (WasPushed g.A.May.may c.args.hub.now) c.loop-i.i c.args.self.now.places c.loop-i.self-inside.places.items inv.0 (omega arith)) inv.2 inv.3
