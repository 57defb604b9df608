-- The ends and the handles may go to another thread, and threads may share the queues.
use denote.RattleType.{RattleType}
use denote.Param.Send.{IsSend, IsSync, sendable}
use Rattle.channel_bounded.specs.declared.rule.May.{Ghosts}
use Rattle.topic_hub.specs.contracts.handle.TopicRef as TopicRef
use Rattle.topic_hub.specs.contracts.hub.TopicHub as TopicHub
use Rattle.topic_hub.specs.contracts.publisher.Publisher as Publisher
use Rattle.topic_hub.specs.contracts.subscriber.Subscriber as Subscriber
use Rattle.topic_hub.proofs.handle.TopicRef.TheSendSync as handle
use Rattle.topic_hub.proofs.hub.TopicHub.TheSendSync as hub
use Rattle.topic_hub.proofs.publisher.Publisher.TheSendSync as publisher
use Rattle.topic_hub.proofs.subscriber.Subscriber.TheSendSync as subscriber

pub publisher_send : IsSend Publisher.the_row
publisher_send = publisher.the_send

pub subscriber_send : IsSend Subscriber.the_row
subscriber_send = subscriber.the_send

pub hub_send : (A : RattleType) (g : Ghosts A.Denot) → IsSend A → IsSend (TopicHub.the_row A g)
hub_send A g s = search (sendable, hub.the_send) depth 8

pub hub_sync : (A : RattleType) (g : Ghosts A.Denot) → IsSync A → IsSync (TopicHub.the_row A g)
hub_sync A g s = search (sendable, hub.the_sync) depth 8

pub handle_send : (A : RattleType) (g : Ghosts A.Denot) → IsSend A → IsSync A → IsSend (TopicRef.the_row A g)
handle_send A g s t = search (sendable, handle.the_send) depth 10
