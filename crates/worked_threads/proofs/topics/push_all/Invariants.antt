use Rattle.std.proofs.Common.{◌≡◌}
use Rattle.topic_hub.specs.Topics.{IsOf, KeepsTopic}
use Rattle.worked_threads.proofs.topics.push_all.Given as goal

abbrev pub invariant-pushes : goal.invariant-pushes
invariant-pushes g l = IsOf l.hub l.publisher × KeepsTopic l.fn.publisher l.publisher × (l.publisher.ended ≡ l.fn.publisher.ended)
