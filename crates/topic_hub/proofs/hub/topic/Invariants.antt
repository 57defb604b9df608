use Rattle.topic_hub.proofs.Begun.{Begun}
use Rattle.topic_hub.proofs.hub.topic.Given as goal

abbrev pub invariant-loop-i : goal.invariant-loop-i
invariant-loop-i g l = Begun l.capacity l.i l.queues.items l.places.items
