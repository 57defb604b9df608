-- What was published to the branches.
use Rattle.std.specs.Prelude.{◌≡◌, ◌⊎◌, ℕ, ◌<◌, List, Some}
use Rattle.channel_bounded.specs.Ends.{HubSeen}
use Rattle.channel_bounded.specs.declared.message.Body.{Body}
use Rattle.topic_hub.specs.Subscribers.{IsAtQueue, SubscriberSeen}
use Rattle.chunk_core.specs.declared.code.How.{How}
use Rattle.channel_bounded.specs.declared.message.Body.TheVariants as body
use Rattle.topic_hub.specs.Topics.{IsOf, IsSubscriber, PublisherSeen, Publishes, due, pending}
use Rattle.tee_branches.specs.Branches.{IsOfBytes}

-- each of the first n possible subscribers is one
abbrev pub AreSubscribed : List HubSeen → ℕ → PublisherSeen → Type 0
AreSubscribed topic n p = (s : SubscriberSeen) → s.number < n → IsAtQueue topic s → IsSubscriber p s

-- just this was published to each of the first n subscribers, all possible ones of the topic at the most
pub record IsPublishing (topic : List HubSeen) (n : ℕ) (all : List Body) (p : PublisherSeen) : Type 0 where
  pub topic_is : IsOf topic p
  pub subscribed : AreSubscribed topic n p
  pub due_is : (i : ℕ) → i < n → due p i ≡ all

-- what is pending are ends and loads of bytes
abbrev pub ArePending : PublisherSeen → Type 0
ArePending p = (i : ℕ) (b : Body) → pending p i ≡ Some b → IsOfBytes b

-- the end was published, where the run needn't stop; else nothing
abbrev pub Closes : Type 0 → How → PublisherSeen → PublisherSeen → Type 0
Closes must reader a b = ((¬ must) × Publishes (body.End reader) a b) ⊎ (b ≡ a)
