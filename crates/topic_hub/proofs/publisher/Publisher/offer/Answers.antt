use Rattle.std.proofs.Common.{◌≡◌, ap, sym, ◌∙◌}
use Rattle.channel_bounded.specs.declared.message.Body.TheVariants as body
use Rattle.topic_hub.specs.Topics.{PublisherSeen}
use Rattle.topic_hub.proofs.Topics.{keeps_itself, published_keeps, publishes, seen_same, taken_back}
use Rattle.topic_hub.proofs.publisher.Publisher.offer.Goals as goal

pub returns-in-Ok-clause-ok : goal.returns-in-Ok-clause-ok
returns-in-Ok-clause-ok c = (
  publishes (body.Load c.args.load.now) c.args.self.now c.publish_copies.new.self c.requires.pending c.in-Ok.ensures.ok c.in-Ok.ensures.same.0,
  c.in-Ok.ensures.same.1 ∙ (sym (ap (λ (p : PublisherSeen). p.ended) c.self.view_is) ∙ c.if-self.false),
)

pub returns-in-Ok-clause-keeps : goal.returns-in-Ok-clause-keeps
returns-in-Ok-clause-keeps c = published_keeps (body.Load c.args.load.now) c.args.self.now c.publish_copies.new.self c.in-Ok.ensures.ok c.in-Ok.ensures.same.0

pub returns-in-Err-clause-err : goal.returns-in-Err-clause-err
returns-in-Err-clause-err c =
    seen_same c.args.self.now c.withdraw.new.self (taken_back (body.Load c.args.load.now) c.args.self.now c.publish_copies.new.self.places c.withdraw.new.self.places c.requires.pending c.in-Err.ensures.err c.withdraw.ensures.all)
    (c.withdraw.ensures.same.0 ∙ c.in-Err.ensures.same.0) (c.withdraw.ensures.same.1 ∙ c.in-Err.ensures.same.1)

pub returns-in-Err-clause-keeps : goal.returns-in-Err-clause-keeps
returns-in-Err-clause-keeps c =
    keeps_itself c.args.self.now c.withdraw.new.self
    (seen_same c.args.self.now c.withdraw.new.self (taken_back (body.Load c.args.load.now) c.args.self.now c.publish_copies.new.self.places c.withdraw.new.self.places c.requires.pending c.in-Err.ensures.err c.withdraw.ensures.all)
    (c.withdraw.ensures.same.0 ∙ c.in-Err.ensures.same.0) (c.withdraw.ensures.same.1 ∙ c.in-Err.ensures.same.1))
