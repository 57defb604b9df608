-- The next number is fresh, and who subscribes got nothing.
use Rattle.std.proofs.Common.{ap, ◌∙◌, subst}
use Rattle.chunk_core.specs.Lists.{IsAmong}
use Rattle.channel_bounded.specs.Ends.{ReceiverSeen}
use Rattle.tee_pump.proofs.Crewing.{fresh_number, nothing_got}
use Rattle.tee_pump.proofs.crew.make_branch.Goals as goal

pub split-sender-requires-clause-fresh : goal.split-sender-requires-clause-fresh
split-sender-requires-clause-fresh g c = λ m.
    let r = c.requires.room in
    let h = r.3 in
    fresh_number r.1 c.number.result (c.number.ensures ∙ (c.in-Some.ensures.some.number ∙ h.given)) (subst (λ l. IsAmong c.number.result l) (ap (λ (x : ReceiverSeen). x.made) h.receiver) m)

pub new-requires-clause-source : goal.new-requires-clause-source
new-requires-clause-source g c = nothing_got c.in-Some.source.got c.in-Some.ensures.some.received
