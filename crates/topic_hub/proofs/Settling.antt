-- A subscriber comes back to its publisher.
use Rattle.std.proofs.Common.{◌≡◌, ◌≢◌, ◌==◌, ℕ, ◌<◌, ◌≤◌, true, List, [], ◌∷◌, ◌++◌, length, map, filter, slice_set, if◌then◌else◌, Option, None, refl, sym, ap, ◌∙◌, subst, eq-eqb, ⊎_elim, arith}
use Rattle.std.specs.Prelude.{option_to_list}
use Rattle.std.proofs.lemmas.Bool.{cases_eq}
use Rattle.std.proofs.lemmas.List.{length-set, map-append}
use Rattle.chunk_core.specs.Lists.{IsAmong}
use Rattle.chunk_core.specs.Lists.IsAmong.{here, there}
use Rattle.chunk_core.specs.Totals.{IsAt}
use Rattle.chunk_core.proofs.Cuts.{append_assoc}
use Rattle.chunk_core.proofs.Filters.{among_right}
use Rattle.chunk_core.proofs.Members.{among_cons, among_left, among_nil}
use Rattle.chunk_core.proofs.Places.{at_set}
use Rattle.chunk_core.proofs.Totals.{one_at, put_here, put_else}
use Rattle.channel_bounded.specs.Ends.{HubSeen, ReceiverSeen, ReceiverSees}
use Rattle.channel_bounded.specs.Queue.{Accounts, ReceiverFinds}
use Rattle.channel_bounded.specs.Streams.{IsWhole, of_stream}
use Rattle.channel_bounded.specs.declared.message.Body.{Body}
use Rattle.channel_bounded.specs.declared.message.Msg.{Msg}
use Rattle.topic_hub.specs.declared.place.Place.{Place}
use Rattle.topic_hub.specs.declared.place.Place.TheVariants as place
use Rattle.topic_hub.specs.declared.place.Seat.{Seat}
use Rattle.topic_hub.specs.Places.{bodies, due_at, pending_at}
use Rattle.topic_hub.specs.Subscribers.{IsAlone, SubscriberSeen, receiver_of, received, seen_subscriber, with_got}
use Rattle.topic_hub.specs.Topics.{FitsPlace, IsOf, IsSubscriber, PublisherSeen, SettlesWith, due, due_in, pending, pending_in}
use Rattle.topic_hub.proofs.Every.{at_within}
use Rattle.topic_hub.proofs.Topics.{due_else, due_is, not_settled_and_taken, pending_else, pending_is}

-- messages of one stream are all of that stream
all_of_it : (k : ℕ) (ms : List Msg) → ((m : Msg) → IsAmong m ms → m.stream ≡ k) → of_stream k ms ≡ ms
all_of_it k [] h = refl
all_of_it k (m ∷ ms) h =
    ap (λ b. if b then (m ∷ of_stream k ms) else of_stream k ms) (eq-eqb m.stream k (h m (here ms)))
    ∙ ap (λ l. m ∷ l) (all_of_it k ms (λ n i. h n (there m i)))

only_it : (k j : ℕ) → IsAmong j (k ∷ []) → j ≡ k
only_it k j m = ⊎_elim (λ e. e) (λ n. absurd (among_nil n)) (among_cons m)

-- in a queue of one sender each message is of it
module _ (may : List Msg → List Msg → Type 0) (k : ℕ) (got queued : List Msg) (closed : List (ℕ × List Msg)) (f : ReceiverFinds may got (k ∷ []) closed queued) where
  pub own : (m : Msg) → IsAmong m (got ++ queued) → m.stream ≡ k
  own m i = only_it k m.stream (f.0.senders m i)

  pub all_sent : (sent : List Msg) → IsWhole k sent got queued → got ++ queued ≡ sent
  all_sent sent w =
      ap (λ l. l ++ queued) (sym (all_of_it k got (λ m i. own m (among_left queued i))))
      ∙ (ap (λ l. of_stream k got ++ l) (sym (all_of_it k queued (λ m i. own m (among_right m got queued i)))) ∙ w)

-- the message that came first is of the queue's sender
pub first_own : (may : List Msg → List Msg → Type 0) (k : ℕ) (got rest : List Msg) (m : Msg) → ReceiverFinds may got (k ∷ []) [] (m ∷ rest) → m.stream ≡ k
first_own may k got rest m f = own may k got (m ∷ rest) [] f m (among_right m got (m ∷ rest) (here rest))

-- it got one message more
pub got_one : (may : List Msg → List Msg → Type 0) (number : ℕ) (s : SubscriberSeen) (old new : ReceiverSeen) (m : Msg) → seen_subscriber number old ≡ s → IsAlone number old → new ≡ record old { got = old.got ++ m ∷ [] }
    → (rest : List Msg) × ReceiverFinds may old.got old.made old.closed (m ∷ rest) → seen_subscriber number new ≡ with_got s m.body
got_one may number s old new m view alone is first =
    ap (λ (r : ReceiverSeen). seen_subscriber number r) is
    ∙ (ap (λ (k : ℕ). let t : SubscriberSeen = record { number = number; queue = old.hub; got = old.got ++ record { stream = k; body = m.body } ∷ [] } in t) (first_own may number old.got first.0 m (subst (λ l. ReceiverFinds may old.got (number ∷ []) l (m ∷ first.0)) alone.1 (subst (λ l. ReceiverFinds may old.got l old.closed (m ∷ first.0)) alone.0 first.1)))
    ∙ ap (λ (t : SubscriberSeen). with_got t m.body) view)

pub got_first : (may : List Msg → List Msg → Type 0) (number : ℕ) (s : SubscriberSeen) (old : ReceiverSeen) (m : Msg) → seen_subscriber number old ≡ s → IsAlone number old
    → (rest : List Msg) × ReceiverFinds may old.got old.made old.closed (m ∷ rest) → (rest : List Msg) × ReceiverSees may (receiver_of s) (record { stream = s.number; body = m.body } ∷ rest)
got_first may number s old m view alone first =
    let f = subst (λ l. ReceiverFinds may old.got (number ∷ []) l (m ∷ first.0)) alone.1 (subst (λ l. ReceiverFinds may old.got l old.closed (m ∷ first.0)) alone.0 first.1) in
    let own : m.stream ≡ number = first_own may number old.got first.0 m f in (
      first.0,
      subst (λ (t : SubscriberSeen). ReceiverFinds may t.got (t.number ∷ []) [] (record { stream = t.number; body = m.body } ∷ first.0)) view
          (subst (λ k. ReceiverFinds may old.got (number ∷ []) [] (record { stream = k; body = m.body } ∷ first.0)) own f),
    )

module _ (may : List Msg → List Msg → Type 0) (a b : PublisherSeen) (s : SubscriberSeen) (seat : Seat)
    (here : IsAt a.places s.number (place.Taken seat)) (now : b.places ≡ slice_set a.places s.number place.Settled) (given : b.given ≡ a.given) (ended : b.ended ≡ a.ended) where
  gone_here : IsAt b.places s.number place.Settled
  gone_here = subst (λ l. IsAt l s.number place.Settled) (sym now) (put_here a.places s.number (place.Taken seat) place.Settled here)

  settled_topic : (queues : List HubSeen) → IsOf queues a → IsOf queues b
  settled_topic queues t = let long : length b.places ≡ length a.places = ap length now ∙ length-set a.places s.number place.Settled in record {
    same = long ∙ t.same;
    few = subst (λ n. n ≤ 64) (sym long) t.few;
    given = subst (λ n. n ≤ length b.places) (sym given) (subst (λ n. a.given ≤ n) (sym long) t.given);
    each = λ i queue x p q. subst (λ n. FitsPlace n i queue x) (sym given) (⊎_elim
        (λ e. subst (λ z. FitsPlace a.given i queue z) e.1 (subst (λ n. n < a.given) (sym e.0) (t.each s.number queue (place.Taken seat) (subst (λ n. IsAt queues n queue) e.0 p) here).0))
        (λ e. t.each i queue x p e.1)
        (at_set a.places s.number i place.Settled x (subst (λ l. IsAt l i x) now q)));
  }

  pub settles : (queued : List Msg) (closed : List (ℕ × List Msg)) → IsWhole s.number seat.sender.sent s.got queued → ReceiverFinds may s.got (s.number ∷ []) closed queued → SettlesWith may a b s
  settles queued closed whole finds =
      let nothing = due_is b.places s.number place.Settled gone_here in
      let waits : pending a s.number ≡ seat.pending = pending_is a.places s.number (place.Taken seat) here in
      let sent : bodies s.got ++ bodies queued ≡ bodies seat.sender.sent = sym (map-append (λ (m : Msg). m.body) s.got queued) ∙ ap bodies (all_sent may s.number s.got queued closed finds seat.sender.sent whole) in record {
        queued = queued;
        whole = ap (λ (o : Option Body). bodies s.got ++ (bodies queued ++ option_to_list o)) waits ∙ (sym (append_assoc (bodies s.got) (bodies queued) (option_to_list seat.pending)) ∙ (ap (λ l. l ++ option_to_list seat.pending) sent ∙ sym (due_is a.places s.number (place.Taken seat) here)));
        holds = finds.1;
        gone = λ t e is. not_settled_and_taken is.0 (one_at b.places s.number place.Settled (place.Taken is.0) gone_here (subst (λ n. IsAt b.places n (place.Taken is.0)) e is.1));
        nothing_due = nothing;
        nothing_pending = pending_is b.places s.number place.Settled gone_here;
        others = λ i ne. (ap (λ l. due_in l i) now ∙ due_else a.places s.number i place.Settled ne, ap (λ l. pending_in l i) now ∙ pending_else a.places s.number i place.Settled ne);
        subscribers = λ t ne is. (is.0, subst (λ l. IsAt l t.number (place.Taken is.0)) (sym now) (put_else a.places s.number t.number (place.Taken is.0) place.Settled ne is.1), is.2);
        only = λ t is. ⊎_elim
            (λ e. not_settled_and_taken is.0 e.1)
            (λ e. (is.0, e.1, is.2))
            (at_set a.places s.number t.number place.Settled (place.Taken is.0) (subst (λ l. IsAt l t.number (place.Taken is.0)) now is.1));
        topic = settled_topic;
        given = given;
        ended = ended;
      }

-- the same, as the call finds it
pub settles_with : (may : List Msg → List Msg → Type 0) (a b : PublisherSeen) (s : SubscriberSeen) (seat : Seat) (gone : Place) (items : List Place) (n : ℕ) (old new : ReceiverSeen) (closed : List (ℕ × List Msg))
    → n ≡ s.number → items ≡ a.places → IsAt items n (place.Taken seat) → seat.sender.stream ≡ n → old.got ≡ s.got → old.made ≡ n ∷ [] → new ≡ record old { closed = closed }
    → gone ≡ place.Settled → b.places ≡ slice_set items n gone → b.given ≡ a.given → b.ended ≡ a.ended
    → (queued : List Msg) × IsWhole seat.sender.stream seat.sender.sent old.got queued × ReceiverFinds may new.got new.made new.closed queued → SettlesWith may a b s
settles_with may a b s seat gone items n old new closed number places was stream got made become leaves now given ended whole =
    settles may a b s seat
    (subst (λ k. IsAt a.places k (place.Taken seat)) number (subst (λ l. IsAt l n (place.Taken seat)) places was))
    (now ∙ (ap (λ (z : Place). slice_set items n z) leaves ∙ (ap (λ k. slice_set items k place.Settled) number ∙ ap (λ l. slice_set l s.number place.Settled) places)))
    given ended whole.0 new.closed
    (subst (λ l. IsWhole s.number seat.sender.sent l whole.0) got (subst (λ k. IsWhole k seat.sender.sent old.got whole.0) (stream ∙ number) whole.1))
    (subst (λ l. ReceiverFinds may l (s.number ∷ []) new.closed whole.0) (ap (λ (r : ReceiverSeen). r.got) become ∙ got)
    (subst (λ l. ReceiverFinds may new.got l new.closed whole.0) (ap (λ (r : ReceiverSeen). r.made) become ∙ (made ∙ ap (λ k. k ∷ []) number)) whole.2))
