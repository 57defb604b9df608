use Rattle.std.proofs.Common.{◌≡◌}
use Rattle.channel_bounded.specs.declared.message.Body.TheVariants as body
use Rattle.topic_hub.specs.Places.{IsPublished, IsWithdrawn}
use Rattle.topic_hub.proofs.Every.{Along}
use Rattle.topic_hub.proofs.publisher.Publisher.end.Given as goal

abbrev pub invariant-loop-i : goal.invariant-loop-i
invariant-loop-i l = Along (IsPublished (body.End l.how)) l.i l.fn.self.places l.self-inside.places.items × (l.self-inside.given ≡ l.fn.self.given) × (l.self-inside.ended ≡ l.fn.self.ended)
