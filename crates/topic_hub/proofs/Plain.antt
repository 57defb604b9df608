-- Where a caller has no fact of its own, each call keeps it.
use Rattle.std.proofs.Common.{ℕ, List}
use Rattle.std.specs.Prelude.{⊤, Option, Some, None, IfSome}
use Rattle.channel_bounded.specs.Ends.{HubSeen, SenderSeen}
use Rattle.channel_bounded.specs.declared.message.Body.{Body}
use Rattle.channel_bounded.specs.declared.message.Msg.{Msg}
use Rattle.topic_hub.specs.declared.place.Place.{Place}
use Rattle.topic_hub.specs.declared.place.Place.TheVariants as place
use Rattle.topic_hub.specs.Places.{MayPushPlace, MaySendBody}
use Rattle.topic_hub.specs.Topics.{MayPush, PublisherSeen}

abbrev pub anything : List Msg → List Msg → Type 0
anything got queued = ⊤

sends : (queue : HubSeen) (sender : SenderSeen) (o : Option Body) → IfSome o (MaySendBody anything queue sender)
sends queue sender None = tt
sends queue sender (Some body) = λ got queued l w m. tt

at_place : (queue : HubSeen) (x : Place) → MayPushPlace anything queue x
at_place queue (place.Free receiver) = tt
at_place queue (place.Taken seat) = sends queue seat.sender seat.pending
at_place queue place.Settled = tt

pub may_push : (queues : List HubSeen) (p : PublisherSeen) → MayPush anything queues p
may_push queues p i queue x at here = at_place queue x
