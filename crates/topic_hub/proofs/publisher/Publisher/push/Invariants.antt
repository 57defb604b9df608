use Rattle.std.proofs.Common.{◌≡◌}
use Rattle.topic_hub.proofs.Every.{Along}
use Rattle.topic_hub.proofs.Pushing.{Answered, WasPushed}
use Rattle.topic_hub.proofs.publisher.Publisher.push.Given as goal

abbrev pub invariant-loop-i : goal.invariant-loop-i
invariant-loop-i g l =
    Along (WasPushed g.A.May.may l.hub) l.i l.fn.self.places l.self-inside.places.items × Answered g.A.May.may l.hub l.i l.fn.self.places l.self-inside.places.items l.pushed × (l.self-inside.given ≡ l.fn.self.given) × (l.self-inside.ended ≡ l.fn.self.ended)
