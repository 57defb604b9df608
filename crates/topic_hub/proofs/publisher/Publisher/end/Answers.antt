use Rattle.std.proofs.Common.{◌≡◌, ◌<◌, ◌≤◌, length, ap, ◌∙◌, sym, arith}
use Rattle.channel_bounded.specs.declared.message.Body.TheVariants as body
use Rattle.topic_hub.specs.Places.{Every, IsPublished}
use Rattle.topic_hub.specs.Topics.{PublisherSeen}
use Rattle.topic_hub.proofs.Every.{along_more, along_whole, at_read}
use Rattle.topic_hub.proofs.Topics.{published_keeps, publishes}
use Rattle.topic_hub.proofs.publisher.Publisher.end.Goals as goal

pub loop-i-preserved : goal.loop-i-preserved
loop-i-preserved c =
    let inv = c.loop-i.invariant in let same = inv.0.same in let own = ap (λ (p : PublisherSeen). length p.places) c.self.view_is in
    let ok = c.self.inside.places.ok.0 in let end = c.len-i-end.ensures in let test = c.loop-i-test.true in (
      along_more (IsPublished (body.End c.args.how)) c.loop-i.i c.args.self.now.places c.loop-i.self-inside.places.items c.index_mut.result.now c.publish.new.self inv.0
          (at_read c.loop-i.self-inside.places.items c.loop-i.i c.index_mut.result.now (omega arith) c.index_mut.ensures.value) c.publish.ensures,
      inv.1,
      inv.2,
    )

pub returns-clause-publishes : goal.returns-clause-publishes
returns-clause-publishes c =
    let inv = c.loop-i.invariant in let own = ap (λ (p : PublisherSeen). length p.places) c.self.view_is in
    let ok = c.self.inside.places.ok.0 in let end = c.len-i-end.ensures in let test = c.loop-i-test.false in
    publishes (body.End c.args.how) c.args.self.now _ c.requires.pending (along_whole (IsPublished (body.End c.args.how)) c.loop-i.i c.args.self.now.places c.loop-i.self-inside.places.items inv.0 (omega arith)) inv.1

pub returns-clause-keeps : goal.returns-clause-keeps
returns-clause-keeps c =
    let inv = c.loop-i.invariant in let own = ap (λ (p : PublisherSeen). length p.places) c.self.view_is in
    let ok = c.self.inside.places.ok.0 in let end = c.len-i-end.ensures in let test = c.loop-i-test.false in
    published_keeps (body.End c.args.how) c.args.self.now _ (along_whole (IsPublished (body.End c.args.how)) c.loop-i.i c.args.self.now.places c.loop-i.self-inside.places.items inv.0 (omega arith)) inv.1
