use Rattle.std.proofs.Common.{◌≡◌, false}
use Rattle.topic_hub.specs.Topics.{IsOf, NothingPending}
use Rattle.worked_threads.proofs.topics.publish_numbers.Given as goal

abbrev pub invariant-loop-number : goal.invariant-loop-number
invariant-loop-number g l = IsOf l.hub l.publisher × NothingPending l.publisher × (l.publisher.ended ≡ false)
