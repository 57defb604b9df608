-- A topic: what its publisher has for each possible subscriber, and what each call does to it.
use Rattle.std.specs.Prelude.{◌≡◌, ◌≢◌, ◌⊎◌, ℕ, zero, suc, ◌+◌, ◌<◌, ◌≤◌, ⊤, Bool, true, false, List, [], ◌∷◌, ◌++◌, length, slice_set, Option, Some, None, option_to_list}
use Rattle.chunk_core.specs.Totals.{IsAt}
use Rattle.channel_bounded.specs.Ends.{HubSeen, ReceiverSeen}
use Rattle.channel_bounded.specs.declared.message.Body.{Body}
use Rattle.channel_bounded.specs.declared.message.Msg.{Msg}
use Rattle.topic_hub.specs.declared.place.Place.{Place}
use Rattle.topic_hub.specs.declared.place.Place.TheVariants as place
use Rattle.topic_hub.specs.declared.place.Seat.{Seat}
use Rattle.topic_hub.specs.declared.publisher.Pushed.{Pushed}
use Rattle.topic_hub.specs.declared.publisher.Pushed.TheVariants as answer
use Rattle.topic_hub.specs.Places.{FoundFull, MayPushPlace, bodies, due_at, pending_at, published}
use Rattle.topic_hub.specs.Subscribers.{SubscriberSeen, receiver_of, received}

-- what the publisher has for each possible subscriber, how many subscribed, and whether the end was published
pub record PublisherSeen : Type 0 where
  pub places : List Place
  pub given : ℕ
  pub ended : Bool

-- what the subscriber of this number is due: what was sent to it, and then what is pending for it
abbrev pub due_in : List Place → ℕ → List Body
due_in [] i = []
due_in (x ∷ xs) zero = due_at x
due_in (x ∷ xs) (suc i) = due_in xs i

abbrev pub due : PublisherSeen → ℕ → List Body
due p i = due_in p.places i

-- what is pending for the subscriber of this number
abbrev pub pending_in : List Place → ℕ → Option Body
pending_in [] i = None
pending_in (x ∷ xs) zero = pending_at x
pending_in (x ∷ xs) (suc i) = pending_in xs i

abbrev pub pending : PublisherSeen → ℕ → Option Body
pending p i = pending_in p.places i

-- nothing is pending for anyone
abbrev pub NothingPending : PublisherSeen → Type 0
NothingPending p = (i : ℕ) → pending p i ≡ None

-- a receiver of this queue that nobody used
abbrev pub unused : HubSeen → ReceiverSeen
unused queue = record { hub = queue.id; got = []; made = []; closed = [] }

-- the place of number i is of this queue, and is free where fewer subscribed
abbrev pub FitsPlace : ℕ → ℕ → HubSeen → Place → Type 0
FitsPlace given i queue (place.Free receiver) = (given ≤ i) × (receiver ≡ unused queue)
FitsPlace given i queue (place.Taken seat) = (i < given) × (seat.sender.hub ≡ queue.id) × (seat.sender.stream ≡ i)
FitsPlace given i queue place.Settled = i < given

-- this is the publisher of these queues
pub record IsOf (queues : List HubSeen) (p : PublisherSeen) : Type 0 where
  pub same : length p.places ≡ length queues
  pub few : length p.places ≤ 64
  pub given : p.given ≤ length p.places
  pub each : (i : ℕ) (queue : HubSeen) (x : Place) → IsAt queues i queue → IsAt p.places i x → FitsPlace p.given i queue x

-- a topic of so many possible subscribers, each with a queue of this capacity, to which nobody subscribed yet
pub record IsNewTopic (most room : ℕ) (queues : List HubSeen) (p : PublisherSeen) : Type 0 where
  pub topic : IsOf queues p
  pub subs : length queues ≡ most
  pub capacity : (i : ℕ) (queue : HubSeen) → IsAt queues i queue → queue.capacity ≡ room
  pub given : p.given ≡ 0
  pub ended : p.ended ≡ false
  pub nothing_pending : NothingPending p

-- the subscriber is of this publisher's topic, which didn't settle with it yet
abbrev pub IsSubscriber : PublisherSeen → SubscriberSeen → Type 0
IsSubscriber p s = (seat : Seat) × IsAt p.places s.number (place.Taken seat) × (seat.sender.hub ≡ s.queue)

-- the publisher of a topic stays it, and its subscribers stay subscribers
pub record KeepsTopic (a b : PublisherSeen) : Type 0 where
  pub topic : (queues : List HubSeen) → IsOf queues a → IsOf queues b
  pub subscribers : (s : SubscriberSeen) → IsSubscriber a s → IsSubscriber b s

-- the next subscriber, which is due nothing and got nothing; to all others and what they are due nothing happened
pub record Subscribes (a b : PublisherSeen) (s : SubscriberSeen) : Type 0 where
  pub room : a.given < length a.places
  pub number : s.number ≡ a.given
  pub given : b.given ≡ a.given + 1
  pub ended : b.ended ≡ a.ended
  pub subscriber : IsSubscriber b s
  pub received : received s ≡ []
  pub nothing_due : due b s.number ≡ []
  pub others : (i : ℕ) → i ≢ s.number → due b i ≡ due a i
  pub nothing_pending : NothingPending b
  pub only : (t : SubscriberSeen) → IsSubscriber b t → (t.number ≡ s.number) ⊎ IsSubscriber a t

-- this was published: it is pending for each subscriber, and was appended to what it is due
pub record Publishes (body : Body) (a b : PublisherSeen) : Type 0 where
  pub appended : (s : SubscriberSeen) → IsSubscriber a s → due b s.number ≡ due a s.number ++ body ∷ []
  pub waits : (s : SubscriberSeen) → IsSubscriber a s → pending b s.number ≡ Some body
  pub only : (s : SubscriberSeen) → IsSubscriber b s → IsSubscriber a s
  pub given : b.given ≡ a.given

module _ (may : List Msg → List Msg → Type 0) (queues : List HubSeen) where
  -- whatever is pending may be sent
  abbrev pub MayPush : PublisherSeen → Type 0
  MayPush p = (i : ℕ) (queue : HubSeen) (x : Place) → IsAt queues i queue → IsAt p.places i x → MayPushPlace may queue x

  -- something was and is pending for the subscriber of this number, whose queue was found full
  pub record WaitsFor (a b : List Place) (i : ℕ) : Type 0 where
    pub seat : Seat
    pub queue : HubSeen
    pub body : Body
    pub old : IsAt a i (place.Taken seat)
    pub now : IsAt b i (place.Taken seat)
    pub at : IsAt queues i queue
    pub waits : seat.pending ≡ Some body
    pub full : FoundFull may queue.capacity seat.sender

  -- nothing is pending any more, or something is for this subscriber
  abbrev pub Tells : PublisherSeen → PublisherSeen → Pushed → Type 0
  Tells a b answer.All = NothingPending b
  Tells a b (answer.Waiting i) = WaitsFor a.places b.places i

  -- what is due stays so; what still is pending waits for a place in its queue
  pub record PushesAll (a b : PublisherSeen) (pushed : Pushed) : Type 0 where
    pub same_due : (i : ℕ) → due b i ≡ due a i
    pub waits : (i : ℕ) (body : Body) → pending b i ≡ Some body → WaitsFor a.places b.places i
    pub tells : Tells a b pushed
    pub only : (s : SubscriberSeen) → IsSubscriber b s → IsSubscriber a s
    pub given : b.given ≡ a.given
    pub ended : b.ended ≡ a.ended

-- what the subscriber received, then what is queued for it, and then what is pending for it, is what it is due; it is no subscriber any more, is due nothing, and all others are as they were
pub record SettlesWith (may : List Msg → List Msg → Type 0) (a b : PublisherSeen) (s : SubscriberSeen) : Type 0 where
  pub queued : List Msg
  pub whole : received s ++ (bodies queued ++ option_to_list (pending a s.number)) ≡ due a s.number
  pub holds : may s.got queued
  pub gone : (t : SubscriberSeen) → t.number ≡ s.number → ¬ (IsSubscriber b t)
  pub nothing_due : due b s.number ≡ []
  pub nothing_pending : pending b s.number ≡ None
  pub others : (i : ℕ) → i ≢ s.number → (due b i ≡ due a i) × (pending b i ≡ pending a i)
  pub subscribers : (t : SubscriberSeen) → t.number ≢ s.number → IsSubscriber a t → IsSubscriber b t
  pub only : (t : SubscriberSeen) → IsSubscriber b t → IsSubscriber a t
  pub topic : (queues : List HubSeen) → IsOf queues a → IsOf queues b
  pub given : b.given ≡ a.given
  pub ended : b.ended ≡ a.ended
