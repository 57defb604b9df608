use Rattle.std.proofs.Common.{◌≡◌, List, ◌++◌, ap, sym, ◌∙◌, subst}
use Rattle.channel_bounded.specs.Ends.{ReceiverSeen}
use Rattle.channel_bounded.specs.declared.message.Body.{Body}
use Rattle.par_eval.specs.Messages.{bodies, paired}
use Rattle.par_eval.proofs.Receiving.{whole_bodies}
use Rattle.par_eval.proofs.inbox.Inbox.join.Goals as goal

pub returns-clause-whole : goal.returns-clause-whole
returns-clause-whole g c =
    let r = c.self.inside.receiver in
    let w = c.join.ensures.whole in
    let e : bodies r.got ++ bodies w.0 ≡ bodies c.args.sender.sent = whole_bodies (paired g.A.May.may) r c.join.new.self c.args.sender.stream c.args.sender.sent w.0 c.self.invariant.made
    (ap (λ (x : ReceiverSeen). x.made) c.join.ensures.receiver) (ap (λ (x : ReceiverSeen). x.got) c.join.ensures.receiver) c.requires.stream w.1 w.2 in
    (bodies w.0, ap (λ (x : ReceiverSeen). bodies x.got ++ bodies w.0) (sym c.self.view_is) ∙ e)
