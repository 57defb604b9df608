-- What the calls come to, one after another; and that no answer comes without its cause.
use Rattle.std.specs.Prelude.{◌≡◌, ℕ, ◌<◌, ⊤, true, List, [], ◌∷◌, ◌++◌, length}
use Rattle.chunk_core.specs.Totals.{IsAt}
use Rattle.chunk_core.specs.declared.code.How.{How}
use Rattle.chunk_core.specs.declared.load.Load.{Load}
use Rattle.channel_bounded.specs.Causes.{NotEmptyYet, NotFullYet}
use Rattle.channel_bounded.specs.Ends.{HubSeen, MayReceive, ReceiverSees, SenderSeen}
use Rattle.channel_bounded.specs.Queue.{QueueRule}
use Rattle.channel_bounded.specs.declared.message.Body.{Body}
use Rattle.channel_bounded.specs.declared.message.Body.TheVariants as body
use Rattle.channel_bounded.specs.declared.message.Msg.{Msg}
use Rattle.channel_bounded.specs.declared.rule.View.{View}
use Rattle.topic_hub.specs.Places.{FoundFull, MaySendBody}
use Rattle.topic_hub.specs.Subscribers.{SubscriberSeen, receiver_of}
use Rattle.topic_hub.specs.Topics.{IsSubscriber, KeepsTopic, PublisherSeen, Publishes, Subscribes, due}

-- this was published, and what is due stayed so from then on, as in each push
abbrev pub Reaches : Body → PublisherSeen → PublisherSeen → Type 0
Reaches body a c = (b : PublisherSeen) × Publishes body a b × KeepsTopic a b × ((i : ℕ) → due c i ≡ due b i) × KeepsTopic b c

-- who subscribes before two loads and the end are published is due these and nothing else
abbrev pub LaterAreDue : Type 0
LaterAreDue = (a b c d e : PublisherSeen) (s : SubscriberSeen) (q r : Load) (how : How)
    → Subscribes a b s → Reaches (body.Load q) b c → Reaches (body.Load r) c d → Reaches (body.End how) d e
    → due e s.number ≡ body.Load q ∷ body.Load r ∷ body.End how ∷ []

-- whoever is a subscriber when the end is published is due it behind all that it was due before
abbrev pub EndIsLast : Type 0
EndIsLast = (a b : PublisherSeen) (s : SubscriberSeen) (how : How) → IsSubscriber a s → Publishes (body.End how) a b → due b s.number ≡ due a s.number ++ body.End how ∷ []

-- wherever the rule of a subscriber's queue holds and the queue isn't full, a fact holds that a push keeps, and by which no moment of it is one where the queue was full
abbrev pub WaitingHasACause : Type 0
WaitingHasACause = (queue : HubSeen) (body : Body) (queued : List Msg) (views : List View) (p : ℕ) (v : View) →
    let sender : SenderSeen = record { hub = queue.id; stream = v.stream; sent = v.sent } in
    QueueRule (λ _ _. ⊤) queued views → IsAt views p v → v.sends ≡ true → length queued < queue.capacity
    → QueueRule (NotFullYet queue.capacity v.stream v.sent) queued views
    × MaySendBody (NotFullYet queue.capacity v.stream v.sent) queue sender body
    × ¬ (FoundFull (NotFullYet queue.capacity v.stream v.sent) queue.capacity sender)

-- wherever the rule of a subscriber's queue holds and something is queued, a fact holds that its call keeps, and by which no moment of it is one where the queue was empty
abbrev pub EmptyHasACause : Type 0
EmptyHasACause = (s : SubscriberSeen) (m : Msg) (rest : List Msg) (views : List View) (p : ℕ) (v : View)
    → QueueRule (λ _ _. ⊤) (m ∷ rest) views → IsAt views p v → v.gets ≡ true → v.got ≡ s.got
    → QueueRule (NotEmptyYet s.got) (m ∷ rest) views
    × MayReceive (NotEmptyYet s.got) (receiver_of s)
    × ¬ (ReceiverSees (NotEmptyYet s.got) (receiver_of s) [])
