-- The queues of a topic are made one after another.
use Rattle.std.proofs.Common.{◌≡◌, ℕ, ◌+◌, ◌<◌, ◌≤◌, List, [], ◌∷◌, ◌++◌, length, None, false, refl, sym, ap, ◌∙◌, subst, ⊎_elim, arith, length-append}
use Rattle.chunk_core.specs.Totals.{IsAt}
use Rattle.chunk_core.proofs.Changes.{at_more}
use Rattle.channel_bounded.specs.Ends.{HubSeen, ReceiverSeen}
use Rattle.channel_bounded.specs.declared.receiver.Receiver.{Receiver}
use Rattle.topic_hub.specs.declared.place.Place.{Place}
use Rattle.topic_hub.specs.declared.place.Place.TheVariants as place
use Rattle.topic_hub.specs.Topics.{FitsPlace, IsNewTopic, PublisherSeen, unused}
use Rattle.topic_hub.proofs.Every.{at_some, at_within}
use Rattle.topic_hub.proofs.Pushing.{nothing_in}
use Rattle.topic_hub.specs.Places.{pending_at}

-- so many queues, each with a free place of its own
pub record Begun (room n : ℕ) (queues : List HubSeen) (places : List Place) : Type 0 where
  pub queues_made : length queues ≡ n
  pub places_made : length places ≡ n
  pub capacity : (i : ℕ) (queue : HubSeen) → IsAt queues i queue → queue.capacity ≡ room
  pub fits : (i : ℕ) (queue : HubSeen) (x : Place) → IsAt queues i queue → IsAt places i x → FitsPlace 0 i queue x

pub begun_none : (room : ℕ) → Begun room 0 [] []
begun_none room = record { queues_made = refl; places_made = refl; capacity = λ i queue p. let w = at_within [] i queue p in absurd (omega arith); fits = λ i queue x p q. let w = at_within [] i queue p in absurd (omega arith) }

pub begun_more : (room n : ℕ) (queues : List HubSeen) (places : List Place) (queue : HubSeen) (r : Receiver) → Begun room n queues places → queue.capacity ≡ room → r ≡ unused queue
    → Begun room (n + 1) (queues ++ queue ∷ []) (places ++ place.Free r ∷ [])
begun_more room n queues places queue r h cap new = let a = h.queues_made in let b = h.places_made in record {
  queues_made = length-append queues (queue ∷ []) ∙ ap (λ k. k + 1) a;
  places_made = length-append places (place.Free r ∷ []) ∙ ap (λ k. k + 1) b;
  capacity = λ i q p. ⊎_elim (λ o. h.capacity i q o) (λ t. subst (λ (z : HubSeen). z.capacity ≡ room) t.1 cap) (at_more queues queue i q p);
  fits = λ i q x p o. ⊎_elim
      (λ old. ⊎_elim (λ was. h.fits i q x old was) (λ t. let w = at_within queues i q old in let e = t.0 in absurd (omega arith)) (at_more places (place.Free r) i x o))
      (λ t. ⊎_elim (λ was. let w = at_within places i x was in let e = t.0 in absurd (omega arith))
      (λ s. subst (λ z. FitsPlace 0 i q z) s.1 (omega arith, new ∙ ap (λ (z : HubSeen). unused z) t.1))
      (at_more places (place.Free r) i x o))
      (at_more queues queue i q p);
}

free_waits : (i : ℕ) (queue : HubSeen) (x : Place) → FitsPlace 0 i queue x → pending_at x ≡ None
free_waits i queue (place.Free r) f = refl
free_waits i queue (place.Taken seat) f = let l = f.0 in absurd (omega arith)
free_waits i queue place.Settled f = refl

pub begun_all : (most room n : ℕ) (queues : List HubSeen) (p : PublisherSeen) → Begun room n queues p.places → n ≡ most → most ≤ 64 → p.given ≡ 0 → p.ended ≡ false → IsNewTopic most room queues p
begun_all most room n queues p h all few given ended = let a = h.queues_made in let b = h.places_made in record {
  topic = record { same = b ∙ sym a; few = omega arith; given = omega arith; each = λ i queue x q o. subst (λ k. FitsPlace k i queue x) (sym given) (h.fits i queue x q o) };
  subs = a ∙ all;
  capacity = h.capacity;
  given = given;
  ended = ended;
  nothing_pending = nothing_in p.places (λ i x o. let w = at_within p.places i x o in let q = at_some queues i (omega arith) in free_waits i q.0 x (h.fits i q.0 x q.1 o));
}
