use Rattle.topic_hub.specs.Subscribers.{IsAtQueue}
use Rattle.worked_threads.proofs.topics.receive_all.Given as goal

abbrev pub invariant-receipts : goal.invariant-receipts
invariant-receipts g l = IsAtQueue l.hub l.subscriber
