use Rattle.std.proofs.Common.{◌≡◌, ap, sym, ◌∙◌, Some}
use Rattle.chunk_core.specs.declared.load.Load.{Load}
use Rattle.channel_bounded.specs.declared.message.Body.TheVariants as body
use Rattle.topic_hub.specs.declared.place.Place.{Place}
use Rattle.topic_hub.specs.declared.place.Place.TheVariants as place
use Rattle.topic_hub.specs.Places.{published}
use Rattle.topic_hub.proofs.Loads.{same_load}
use Rattle.topic_hub.proofs.place.Place.publish_copy.Goals as goal

pub returns-in_ok-copy-clause-ok : goal.returns-in_ok-copy-clause-ok
returns-in_ok-copy-clause-ok c =
    ap (λ (l : Load). place.Taken (record { sender = c.in-Taken.seat.sender; pending = Some (body.Load l) })) (same_load c.in_ok-copy.field-0 c.args.load.now c.in_ok-copy.ensures.same c.in_ok-copy.ensures.kind)
    ∙ sym (ap (λ (p : Place). published (body.Load c.args.load.now) p) c.in-Taken.is)
