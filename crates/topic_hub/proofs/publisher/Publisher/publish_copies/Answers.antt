use Rattle.std.proofs.Common.{◌≡◌, ◌+◌, ◌<◌, ◌≤◌, inl, inr, length, refl, ap, ◌∙◌, sym, arith}
use Rattle.channel_bounded.specs.declared.message.Body.TheVariants as body
use Rattle.topic_hub.specs.Places.{Every, IsPublished, IsPublishedOrNot}
use Rattle.topic_hub.specs.Topics.{PublisherSeen}
use Rattle.topic_hub.proofs.Every.{along_left, along_more, along_weaker, along_whole, at_read, on_err}
use Rattle.topic_hub.proofs.publisher.Publisher.publish_copies.Goals as goal

pub returns-in_err-publish_copy-clause-err : goal.returns-in_err-publish_copy-clause-err
returns-in_err-publish_copy-clause-err c =
    let inv = c.loop-i.invariant in let same = inv.0.same in let own = ap (λ (p : PublisherSeen). length p.places) c.self.view_is in
    let ok = c.self.inside.places.ok.0 in let end = c.len-i-end.ensures in let test = c.loop-i-test.true in let load = body.Load c.args.load.now in
    on_err c.from_residual.result (along_left (IsPublishedOrNot load) (λ i x. inr refl) (c.loop-i.i + 1) c.args.self.now.places _
    (along_more (IsPublishedOrNot load) c.loop-i.i c.args.self.now.places c.loop-i.self-inside.places.items c.index_mut.result.now c.publish_copy.new.self
    (along_weaker (IsPublished load) (IsPublishedOrNot load) (λ i x y e. inl e) c.loop-i.i c.args.self.now.places c.loop-i.self-inside.places.items inv.0)
    (at_read c.loop-i.self-inside.places.items c.loop-i.i c.index_mut.result.now (omega arith) c.index_mut.ensures.value) (inr c.in_err-publish_copy.ensures.err)))

pub loop-i-preserved : goal.loop-i-preserved
loop-i-preserved c =
    let inv = c.loop-i.invariant in let same = inv.0.same in let own = ap (λ (p : PublisherSeen). length p.places) c.self.view_is in
    let ok = c.self.inside.places.ok.0 in let end = c.len-i-end.ensures in let test = c.loop-i-test.true in (
      along_more (IsPublished (body.Load c.args.load.now)) c.loop-i.i c.args.self.now.places c.loop-i.self-inside.places.items c.index_mut.result.now c.publish_copy.new.self inv.0
          (at_read c.loop-i.self-inside.places.items c.loop-i.i c.index_mut.result.now (omega arith) c.index_mut.ensures.value) c.in_ok-publish_copy.ensures.ok,
      inv.1,
      inv.2,
    )

pub returns-clause-ok : goal.returns-clause-ok
returns-clause-ok c =
    let inv = c.loop-i.invariant in let own = ap (λ (p : PublisherSeen). length p.places) c.self.view_is in
    let ok = c.self.inside.places.ok.0 in let end = c.len-i-end.ensures in let test = c.loop-i-test.false in
    along_whole (IsPublished (body.Load c.args.load.now)) c.loop-i.i c.args.self.now.places c.loop-i.self-inside.places.items inv.0 (omega arith)
