-- What contracts see of a subscriber.
use Rattle.std.specs.Prelude.{◌≡◌, ℕ, List, [], ◌∷◌, ◌++◌}
use Rattle.atomic_table.specs.Seated.{TableId}
use Rattle.chunk_core.specs.Totals.{IsAt}
use Rattle.channel_bounded.specs.Ends.{HubSeen, ReceiverSeen}
use Rattle.channel_bounded.specs.declared.message.Body.{Body}
use Rattle.channel_bounded.specs.declared.message.Msg.{Msg}
use Rattle.topic_hub.specs.Places.{bodies}

-- the subscriber's number, which queue is its own, and all messages that it got
pub record SubscriberSeen : Type 0 where
  pub number : ℕ
  pub queue : TableId
  pub got : List Msg

abbrev pub seen_subscriber : ℕ → ReceiverSeen → SubscriberSeen
seen_subscriber number receiver = record { number = number; queue = receiver.hub; got = receiver.got }

-- one sender sends into its queue, which has its number, and none was taken in
abbrev pub IsAlone : ℕ → ReceiverSeen → Type 0
IsAlone number receiver = (receiver.made ≡ number ∷ []) × (receiver.closed ≡ [])

-- the receiver of the subscriber's queue
abbrev pub receiver_of : SubscriberSeen → ReceiverSeen
receiver_of s = record { hub = s.queue; got = s.got; made = s.number ∷ []; closed = [] }

-- the loads and the end that it received
abbrev pub received : SubscriberSeen → List Body
received s = bodies s.got

-- it got this one more
abbrev pub with_got : SubscriberSeen → Body → SubscriberSeen
with_got s body = record s { got = s.got ++ record { stream = s.number; body = body } ∷ [] }

-- its queue is the one of its number
abbrev pub IsAtQueue : List HubSeen → SubscriberSeen → Type 0
IsAtQueue queues s = (queue : HubSeen) × IsAt queues s.number queue × (queue.id ≡ s.queue)
