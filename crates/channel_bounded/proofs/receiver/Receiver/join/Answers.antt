use Rattle.std.proofs.Common.{ap, ◌∙◌, subst}
use Rattle.crossbeam_queue.specs.Passes.{view}
use Rattle.channel_bounded.specs.declared.rule.View.{View}
use Rattle.channel_bounded.specs.Ends.{ReceiverSeen, SenderSeen}
use Rattle.channel_bounded.specs.Streams.{IsWhole}
use Rattle.channel_bounded.proofs.Moves.{joins, receiver_learns, told}
use Rattle.channel_bounded.proofs.receiver.Receiver.join.Goals as goal

pub absorb-requires-clause-rule : goal.absorb-requires-clause-rule
absorb-requires-clause-rule g c = let i = c.self.invariant in joins g.A.May.may _ _ _ _ i.1 i.2 c.sender.invariant.1

pub learn_as-requires-clause-rule : goal.learn_as-requires-clause-rule
learn_as-requires-clause-rule g c = receiver_learns g.A.May.may _ _ (ap (λ (v : View). v.gets) c.absorb.ensures.rule ∙ c.self.invariant.1)

pub returns-clause-whole : goal.returns-clause-whole
returns-clause-whole g c =
    let known = c.learn_as.ensures.rule in
    let tells = told g.A.May.may (view c.self.inside.pass) (view c.sender.inside.pass) (view c.absorb.new.pass) (view c.learn_as.new.pass) known.0 c.absorb.ensures.rule c.learn_as.ensures.queue.1 known.1 in (
      known.0,
      subst (λ (s : SenderSeen). IsWhole s.stream s.sent c.args.self.now.got known.0) c.sender.view_is
          (subst (λ (r : ReceiverSeen). IsWhole (view c.sender.inside.pass).stream (view c.sender.inside.pass).sent r.got known.0) c.self.view_is tells.0),
      tells.1,
    )
