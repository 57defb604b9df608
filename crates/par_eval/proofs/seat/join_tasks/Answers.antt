use Rattle.std.proofs.Common.{◌≡◌, List, ◌++◌, ap, sym, ◌∙◌, subst}
use Rattle.channel_bounded.specs.Ends.{ReceiverSeen}
use Rattle.channel_bounded.specs.declared.message.Body.{Body}
use Rattle.par_eval.specs.Messages.{bodies, the_stream}
use Rattle.par_eval.specs.Sides.{IsSide, sender_of}
use Rattle.par_eval.specs.declared.seat.Side.{Side}
use Rattle.par_eval.proofs.Receiving.{whole_bodies}
use Rattle.par_eval.proofs.seat.join_tasks.Goals as goal

pub returns : goal.returns
returns g c =
    let r = c.args.tasks in
    let w = c.join.ensures.whole in
    let stream : c.in-Open.sender.stream ≡ the_stream = subst IsSide c.in-Open.is c.requires.stream in
    let e : bodies r.got ++ bodies w.0 ≡ bodies c.in-Open.sender.sent = whole_bodies g.A.May.may r c.join.new.self c.in-Open.sender.stream c.in-Open.sender.sent w.0 c.requires.made
    (ap (λ (x : ReceiverSeen). x.made) c.join.ensures.receiver) (ap (λ (x : ReceiverSeen). x.got) c.join.ensures.receiver) stream w.1 w.2 in
    (bodies w.0, e ∙ ap (λ (s : Side). bodies (sender_of s).sent) (sym c.in-Open.is))
