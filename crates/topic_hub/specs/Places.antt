-- What the publisher has for one possible subscriber, and what a push does to it.
use Rattle.std.specs.Prelude.{◌≡◌, ℕ, ◌⊎◌, ⊤, List, [], ◌∷◌, ◌++◌, map, length, Option, Some, None, IfSome, option_to_list}
use Rattle.chunk_core.specs.Totals.{IsAt}
use Rattle.channel_bounded.specs.Ends.{HubSeen, MaySend, SenderSeen, SenderSees}
use Rattle.channel_bounded.specs.declared.message.Body.{Body}
use Rattle.channel_bounded.specs.declared.message.Msg.{Msg}
use Rattle.topic_hub.specs.declared.place.Place.{Place}
use Rattle.topic_hub.specs.declared.place.Place.TheVariants as place
use Rattle.topic_hub.specs.declared.place.Seat.{Seat}
use Rattle.topic_hub.specs.declared.publisher.Pushed.{Pushed}
use Rattle.topic_hub.specs.declared.publisher.Pushed.TheVariants as answer

-- the bodies of messages in order
abbrev pub bodies : List Msg → List Body
bodies messages = map (λ m. m.body) messages

-- what was sent to the subscriber that is there, and then what is pending for it
abbrev pub due_at : Place → List Body
due_at (place.Free receiver) = []
due_at (place.Taken seat) = bodies seat.sender.sent ++ option_to_list seat.pending
due_at place.Settled = []

-- what is pending for the subscriber that is there
abbrev pub pending_at : Place → Option Body
pending_at (place.Free receiver) = None
pending_at (place.Taken seat) = seat.pending
pending_at place.Settled = None

-- this is pending for the subscriber that is there
abbrev pub published : Body → Place → Place
published body (place.Free receiver) = place.Free receiver
published body (place.Taken seat) = place.Taken (record seat { pending = Some body })
published body place.Settled = place.Settled

-- nothing is pending
abbrev pub withdrawn : Place → Place
withdrawn (place.Free receiver) = place.Free receiver
withdrawn (place.Taken seat) = place.Taken (record seat { pending = None })
withdrawn place.Settled = place.Settled

-- the subscriber that is there gets its messages by this queue
abbrev pub IsSender : HubSeen → Place → Type 0
IsSender queue (place.Free receiver) = ⊤
IsSender queue (place.Taken seat) = seat.sender.hub ≡ queue.id
IsSender queue place.Settled = ⊤

-- at one moment the queue held as many messages as it can, and the sender's fact held of them
pub record FoundFull (may : List Msg → List Msg → Type 0) (capacity : ℕ) (sender : SenderSeen) : Type 0 where
  pub queued : List Msg
  pub full : length queued ≡ capacity
  pub sees : SenderSees may sender queued

module _ (may : List Msg → List Msg → Type 0) (queue : HubSeen) where
  -- the message that brings this body to the subscriber keeps the caller's fact
  abbrev pub MaySendBody : SenderSeen → Body → Type 0
  MaySendBody sender body = MaySend may queue.capacity sender (record { stream = sender.stream; body = body })

  -- what is pending may be sent
  abbrev pub MayPushPlace : Place → Type 0
  MayPushPlace (place.Free receiver) = ⊤
  MayPushPlace (place.Taken seat) = IfSome seat.pending (MaySendBody seat.sender)
  MayPushPlace place.Settled = ⊤

  -- nothing was pending, or it was sent
  abbrev pub seat_pushed : Seat → Option Body → Seat
  seat_pushed seat None = seat
  seat_pushed seat (Some body) = record seat { sender = record seat.sender { sent = seat.sender.sent ++ record { stream = seat.sender.stream; body = body } ∷ [] }; pending = None }

  -- what was pending waits since the queue was found full, and all is as it was
  pub record Waits (seat : Seat) (b : Place) (k : ℕ) : Type 0 where
    pub number : k ≡ seat.sender.stream
    pub body : Body
    pub pending : seat.pending ≡ Some body
    pub same : b ≡ place.Taken seat
    pub full : FoundFull may queue.capacity seat.sender

  -- what was pending was sent, or waits for a place in the queue
  abbrev pub Pushes : Place → Place → Pushed → Type 0
  Pushes (place.Free receiver) b pushed = (b ≡ place.Free receiver) × (pushed ≡ answer.All)
  Pushes (place.Taken seat) b answer.All = b ≡ place.Taken (seat_pushed seat seat.pending)
  Pushes (place.Taken seat) b (answer.Waiting k) = Waits seat b k
  Pushes place.Settled b pushed = (b ≡ place.Settled) × (pushed ≡ answer.All)

-- the first of two answers that waits
abbrev pub first_waiting : Pushed → Pushed → Pushed
first_waiting answer.All b = b
first_waiting (answer.Waiting i) b = answer.Waiting i

-- the loop over places: Every R a b says of each place of a that it stands so to that of b
pub record Every (R : ℕ → Place → Place → Type 0) (a b : List Place) : Type 0 where
  pub same : length b ≡ length a
  pub each : (i : ℕ) (x y : Place) → IsAt a i x → IsAt b i y → R i x y

abbrev pub IsPublished : Body → ℕ → Place → Place → Type 0
IsPublished body i x y = y ≡ published body x

abbrev pub IsPublishedOrNot : Body → ℕ → Place → Place → Type 0
IsPublishedOrNot body i x y = (y ≡ published body x) ⊎ (y ≡ x)

abbrev pub IsWithdrawn : ℕ → Place → Place → Type 0
IsWithdrawn i x y = y ≡ withdrawn x
