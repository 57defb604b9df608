-- What holds of a topic after its places changed.
use Rattle.std.proofs.Common.{◌≡◌, ◌≢◌, ℕ, zero, suc, ◌+◌, ◌<◌, ◌≤◌, ◌⊎◌, inl, inr, List, [], ◌∷◌, ◌++◌, length, map, slice_set, Option, Some, None, Bool, refl, sym, ap, ◌∙◌, subst, ⊎_elim, arith, append-nil}
use Rattle.std.proofs.lemmas.Bool.{cases_eq}
use Rattle.std.proofs.lemmas.List.{length-set}
use Rattle.std.specs.Prelude.{option_to_list}
use Rattle.chunk_core.specs.Totals.{IsAt}
use Rattle.chunk_core.proofs.Places.{at_set}
use Rattle.chunk_core.proofs.Totals.{one_at, put_here, put_else}
use Rattle.channel_bounded.specs.Ends.{HubSeen, ReceiverSeen}
use Rattle.channel_bounded.specs.declared.message.Body.{Body}
use Rattle.channel_bounded.specs.declared.message.Msg.{Msg}
use Rattle.channel_bounded.specs.declared.receiver.Receiver.{Receiver}
use mathlib.Core.Option.{some-ne-none}
use Rattle.topic_hub.specs.declared.place.Place.{Place}
use Rattle.topic_hub.specs.declared.place.Place.TheVariants as place
use Rattle.topic_hub.specs.declared.place.Seat.{Seat}
use Rattle.topic_hub.specs.Places.{Every, IsPublished, IsSender, IsPublishedOrNot, IsWithdrawn, bodies, due_at, pending_at, published, withdrawn}
use Rattle.topic_hub.specs.Subscribers.{SubscriberSeen}
use Rattle.topic_hub.specs.Topics.{FitsPlace, IsOf, IsSubscriber, KeepsTopic, NothingPending, PublisherSeen, Publishes, Subscribes, due, due_in, pending, pending_in, unused}
use Rattle.topic_hub.proofs.Every.{at_within, every_back, every_on, same_by_place}

pub due_is : (xs : List Place) (i : ℕ) (x : Place) → IsAt xs i x → due_in xs i ≡ due_at x
due_is [] i x e = absurd (some-ne-none x (sym e))
due_is (y ∷ ys) zero x e = ap (λ z. due_at z) (one_at (y ∷ ys) 0 y x refl e)
due_is (y ∷ ys) (suc i) x e = due_is ys i x e

pub pending_is : (xs : List Place) (i : ℕ) (x : Place) → IsAt xs i x → pending_in xs i ≡ pending_at x
pending_is [] i x e = absurd (some-ne-none x (sym e))
pending_is (y ∷ ys) zero x e = ap (λ z. pending_at z) (one_at (y ∷ ys) 0 y x refl e)
pending_is (y ∷ ys) (suc i) x e = pending_is ys i x e

-- there is a subscriber exactly where there was one, with the same queue
abbrev pub IsSame : ℕ → Place → Place → Type 0
IsSame i (place.Free receiver) y = y ≡ place.Free receiver
IsSame i (place.Taken seat) y = (new : Seat) × (y ≡ place.Taken new) × (new.sender.hub ≡ seat.sender.hub) × (new.sender.stream ≡ seat.sender.stream)
IsSame i place.Settled y = y ≡ place.Settled

pub itself : (i : ℕ) (x : Place) → IsSame i x x
itself i (place.Free receiver) = refl
itself i (place.Taken seat) = (seat, refl, refl, refl)
itself i place.Settled = refl

fits_still : (given i : ℕ) (queue : HubSeen) (x y : Place) → IsSame i x y → FitsPlace given i queue x → FitsPlace given i queue y
fits_still given i queue (place.Free receiver) y s f = subst (λ z. FitsPlace given i queue z) (sym s) f
fits_still given i queue (place.Taken seat) y s f = subst (λ z. FitsPlace given i queue z) (sym s.1) (f.0, s.2 ∙ f.1, s.3 ∙ f.2)
fits_still given i queue place.Settled y s f = subst (λ z. FitsPlace given i queue z) (sym s) f

-- each place is the same, so the topic is
pub keeps : (a b : PublisherSeen) → Every IsSame a.places b.places → b.given ≡ a.given → KeepsTopic a b
keeps a b e g = record {
  topic = λ queues t. record {
    same = e.same ∙ t.same;
    few = subst (λ n. n ≤ 64) (sym e.same) t.few;
    given = subst (λ n. n ≤ length b.places) (sym g) (subst (λ n. a.given ≤ n) (sym e.same) t.given);
    each = λ i queue y p q. let x = every_back IsSame a.places b.places e i y q in
        subst (λ n. FitsPlace n i queue y) (sym g) (fits_still a.given i queue x.0 y x.2 (t.each i queue x.0 p x.1));
  };
  subscribers = λ s t. let y = every_on IsSame a.places b.places e s.number (place.Taken t.0) t.1 in
      (y.2.0, subst (λ z. IsAt b.places s.number z) y.2.1 y.1, y.2.2 ∙ t.2);
}

-- a number for each state of a place
abbrev state_of : Place → ℕ
state_of (place.Free receiver) = 0
state_of (place.Taken seat) = 1
state_of place.Settled = 2

pub not_free_and_taken : {X : Type 0} (r : Receiver) (seat : Seat) → place.Free r ≡ place.Taken seat → X
not_free_and_taken r seat e = absurd (let n : 0 ≡ 1 = ap state_of e in omega arith)

pub not_settled_and_taken : {X : Type 0} (seat : Seat) → place.Settled ≡ place.Taken seat → X
not_settled_and_taken seat e = absurd (let n : 2 ≡ 1 = ap state_of e in omega arith)

abbrev seat_or : Seat → Place → Seat
seat_or d (place.Free receiver) = d
seat_or d (place.Taken seat) = seat
seat_or d place.Settled = d

was_taken : (i : ℕ) (x y : Place) (new : Seat) → IsSame i x y → y ≡ place.Taken new → (old : Seat) × (x ≡ place.Taken old) × (new.sender.hub ≡ old.sender.hub)
was_taken i (place.Free receiver) y new s e = not_free_and_taken receiver new (sym s ∙ e)
was_taken i (place.Taken seat) y new s e = (seat, refl, ap (λ (p : Place). (seat_or new p).sender.hub) (sym e ∙ s.1) ∙ s.2)
was_taken i place.Settled y new s e = not_settled_and_taken new (sym s ∙ e)

-- each subscriber was one
pub only_old : (a b : PublisherSeen) → Every IsSame a.places b.places → (s : SubscriberSeen) → IsSubscriber b s → IsSubscriber a s
only_old a b e s t = let x = every_back IsSame a.places b.places e s.number (place.Taken t.0) t.1 in let w = was_taken s.number x.0 (place.Taken t.0) t.0 x.2 refl in
    (w.0, subst (λ z. IsAt a.places s.number z) w.1 x.1, sym w.2 ∙ t.2)

pub published_same : (body : Body) (i : ℕ) (x y : Place) → IsPublished body i x y → IsSame i x y
published_same body i (place.Free receiver) y e = e
published_same body i (place.Taken seat) y e = (record seat { pending = Some body }, e, refl, refl)
published_same body i place.Settled y e = e

every_same : (R : ℕ → Place → Place → Type 0) (a b : List Place) → ((i : ℕ) (x y : Place) → R i x y → IsSame i x y) → Every R a b → Every IsSame a b
every_same R a b f e = record { same = e.same; each = λ i x y p q. f i x y (e.each i x y p q) }

-- the loop that publishes publishes
pub publishes : (body : Body) (a b : PublisherSeen) → NothingPending a → Every (IsPublished body) a.places b.places → b.given ≡ a.given → Publishes body a b
publishes body a b none e g = record {
  appended = λ s t. let y = every_on (IsPublished body) a.places b.places e s.number (place.Taken t.0) t.1 in
      let nil : t.0.pending ≡ None = sym (pending_is a.places s.number (place.Taken t.0) t.1) ∙ none s.number in
      due_is b.places s.number y.0 y.1 ∙ (ap (λ z. due_at z) y.2 ∙ sym (ap (λ l. l ++ body ∷ []) (due_is a.places s.number (place.Taken t.0) t.1 ∙ (ap (λ (o : Option Body). bodies t.0.sender.sent ++ option_to_list o) nil ∙ append-nil (bodies t.0.sender.sent)))));
  waits = λ s t. let y = every_on (IsPublished body) a.places b.places e s.number (place.Taken t.0) t.1 in pending_is b.places s.number y.0 y.1 ∙ ap (λ z. pending_at z) y.2;
  only = only_old a b (every_same (IsPublished body) a.places b.places (published_same body) e);
  given = g;
}

pub published_keeps : (body : Body) (a b : PublisherSeen) → Every (IsPublished body) a.places b.places → b.given ≡ a.given → KeepsTopic a b
published_keeps body a b e g = keeps a b (every_same (IsPublished body) a.places b.places (published_same body) e) g

-- where nothing was pending, what was published in part and taken back is as it was
withdrawn_back : (body : Body) (x y z : Place) → pending_at x ≡ None → (y ≡ published body x) ⊎ (y ≡ x) → z ≡ withdrawn y → z ≡ x
withdrawn_back body (place.Free receiver) y z n s w = ⊎_elim (λ e. w ∙ ap (λ p. withdrawn p) e) (λ e. w ∙ ap (λ p. withdrawn p) e) s
withdrawn_back body (place.Taken seat) y z n s w =
    let nil : place.Taken (record seat { pending = None }) ≡ place.Taken seat = ap (λ (o : Option Body). let t : Seat = record seat { pending = o } in place.Taken t) (sym n) in
    ⊎_elim (λ e. w ∙ (ap (λ p. withdrawn p) e ∙ nil)) (λ e. w ∙ (ap (λ p. withdrawn p) e ∙ nil)) s
withdrawn_back body place.Settled y z n s w = ⊎_elim (λ e. w ∙ ap (λ p. withdrawn p) e) (λ e. w ∙ ap (λ p. withdrawn p) e) s

pub taken_back : (body : Body) (a : PublisherSeen) (b c : List Place) → NothingPending a → Every (IsPublishedOrNot body) a.places b → Every IsWithdrawn b c → c ≡ a.places
taken_back body a b c none e f = same_by_place a.places c (f.same ∙ e.same) (λ i x z p r.
    let y = every_on (IsPublishedOrNot body) a.places b e i x p in
    withdrawn_back body x y.0 z (sym (pending_is a.places i x p) ∙ none i) y.2 (f.each i y.0 z y.1 r))

pub due_else : (xs : List Place) (n i : ℕ) (y : Place) → i ≢ n → due_in (slice_set xs n y) i ≡ due_in xs i
due_else [] n i y ne = refl
due_else (x ∷ xs) zero zero y ne = absurd (ne refl)
due_else (x ∷ xs) zero (suc i) y ne = refl
due_else (x ∷ xs) (suc n) zero y ne = refl
due_else (x ∷ xs) (suc n) (suc i) y ne = due_else xs n i y (λ e. ne (ap suc e))

pub pending_else : (xs : List Place) (n i : ℕ) (y : Place) → i ≢ n → pending_in (slice_set xs n y) i ≡ pending_in xs i
pending_else [] n i y ne = refl
pending_else (x ∷ xs) zero zero y ne = absurd (ne refl)
pending_else (x ∷ xs) zero (suc i) y ne = refl
pending_else (x ∷ xs) (suc n) zero y ne = refl
pending_else (x ∷ xs) (suc n) (suc i) y ne = pending_else xs n i y (λ e. ne (ap suc e))

-- the place behind the last subscriber's is free
pub free_next : (queues : List HubSeen) (p : PublisherSeen) (queue : HubSeen) (x : Place) → IsOf queues p → IsAt queues p.given queue → IsAt p.places p.given x → (r : Receiver) × (x ≡ place.Free r) × (r ≡ unused queue)
free_next queues p queue x t at here = of_fit p.given x (t.each p.given queue x at here) where
  of_fit : (n : ℕ) (x : Place) → FitsPlace n n queue x → (r : Receiver) × (x ≡ place.Free r) × (r ≡ unused queue)
  of_fit n (place.Free r) f = (r, refl, f.1)
  of_fit n (place.Taken seat) f = let l = f.0 in absurd (omega arith)
  of_fit n place.Settled f = absurd (let l : n < n = f in omega arith)

module _ (a b : PublisherSeen) (r : Receiver) (seat : Seat)
    (here : IsAt a.places a.given (place.Free r)) (now : b.places ≡ slice_set a.places a.given (place.Taken seat))
    (given : b.given ≡ a.given + 1) (hub : seat.sender.hub ≡ r.hub) (stream : seat.sender.stream ≡ a.given) where
  taken_here : IsAt b.places a.given (place.Taken seat)
  taken_here = subst (λ l. IsAt l a.given (place.Taken seat)) (sym now) (put_here a.places a.given (place.Free r) (place.Taken seat) here)

  still_fits : (i : ℕ) (queue : HubSeen) (x : Place) → i ≢ a.given → FitsPlace a.given i queue x → FitsPlace (a.given + 1) i queue x
  still_fits i queue (place.Free receiver) ne f = (let l = f.0 in omega arith, f.1)
  still_fits i queue (place.Taken seat) ne f = (let l = f.0 in omega arith, f.1, f.2)
  still_fits i queue place.Settled ne f = let l : i < a.given = f in omega arith

  newly_fits : (queues : List HubSeen) → IsOf queues a → (i : ℕ) (queue : HubSeen) (x : Place) → IsAt queues i queue → IsAt b.places i x → FitsPlace (a.given + 1) i queue x
  newly_fits queues t i queue x at p = ⊎_elim
      (λ e. subst (λ z. FitsPlace (a.given + 1) i queue z) e.1 (let l = e.0 in omega arith, hub ∙ ap (λ (s : ReceiverSeen). s.hub) (t.each a.given queue (place.Free r) (subst (λ n. IsAt queues n queue) e.0 at) here).1, stream ∙ sym e.0))
      (λ e. still_fits i queue x e.0 (t.each i queue x at e.1))
      (at_set a.places a.given i (place.Taken seat) x (subst (λ l. IsAt l i x) now p))

  pub subscribe_keeps : KeepsTopic a b
  subscribe_keeps = record {
    topic = λ queues t. let long : length b.places ≡ length a.places = ap length now ∙ length-set a.places a.given (place.Taken seat) in let w = at_within a.places a.given (place.Free r) here in record {
      same = long ∙ t.same;
      few = subst (λ n. n ≤ 64) (sym long) t.few;
      given = omega arith;
      each = λ i queue x p q. subst (λ n. FitsPlace n i queue x) (sym given) (newly_fits queues t i queue x p q);
    };
    subscribers = λ s t. (t.0, subst (λ l. IsAt l s.number (place.Taken t.0)) (sym now) (put_else a.places a.given s.number (place.Taken t.0) (place.Taken seat) (λ e. not_free_and_taken r t.0 (one_at a.places a.given (place.Free r) (place.Taken t.0) here (subst (λ n. IsAt a.places n (place.Taken t.0)) e t.1))) t.1), t.2);
  }

  pub subscribes : (s : SubscriberSeen) → NothingPending a → seat.sender.sent ≡ [] → seat.pending ≡ None → b.ended ≡ a.ended → s.number ≡ a.given → s.queue ≡ r.hub → s.got ≡ [] → Subscribes a b s
  subscribes s none sent nil ended number queue got = record {
    room = at_within a.places a.given (place.Free r) here;
    number = number;
    given = given;
    ended = ended;
    subscriber = (seat, subst (λ n. IsAt b.places n (place.Taken seat)) (sym number) taken_here, hub ∙ sym queue);
    received = ap bodies got;
    nothing_due = ap (λ n. due_in b.places n) number ∙ (due_is b.places a.given (place.Taken seat) taken_here ∙ (ap (λ (l : List Msg). bodies l ++ option_to_list seat.pending) sent ∙ ap (λ (o : Option Body). option_to_list o) nil));
    others = λ i ne. ap (λ l. due_in l i) now ∙ due_else a.places a.given i (place.Taken seat) (λ e. ne (e ∙ sym number));
    nothing_pending = λ i. ⊎_elim
        (λ e. ap (λ n. pending_in b.places n) e ∙ (pending_is b.places a.given (place.Taken seat) taken_here ∙ nil))
        (λ ne. ap (λ l. pending_in l i) now ∙ (pending_else a.places a.given i (place.Taken seat) ne ∙ none i))
        (cases_eq i a.given);
    only = λ t is. ⊎_elim
        (λ e. inl (e.0 ∙ sym number))
        (λ e. inr (is.0, e.1, is.2))
        (at_set a.places a.given t.number (place.Taken seat) (place.Taken is.0) (subst (λ l. IsAt l t.number (place.Taken is.0)) now is.1));
  }

pub fit_sender : (given i : ℕ) (queue : HubSeen) (x : Place) → FitsPlace given i queue x → IsSender queue x
fit_sender given i queue (place.Free receiver) f = tt
fit_sender given i queue (place.Taken seat) f = f.1
fit_sender given i queue place.Settled f = tt

pub fit_number : (given i : ℕ) (queue : HubSeen) (x : Place) → FitsPlace given i queue x → (seat : Seat) → x ≡ place.Taken seat → seat.sender.stream ≡ i
fit_number given i queue x f seat e = (subst (λ z. FitsPlace given i queue z) e f).2

pub keeps_itself : (a b : PublisherSeen) → b ≡ a → KeepsTopic a b
keeps_itself a b e = subst (λ z. KeepsTopic a z) (sym e) (record { topic = λ queues t. t; subscribers = λ s t. t })

pub seen_same : (a b : PublisherSeen) → b.places ≡ a.places → b.given ≡ a.given → b.ended ≡ a.ended → b ≡ a
seen_same a b places given ended =
    ap (λ (l : List Place). let p : PublisherSeen = record { places = l; given = b.given; ended = b.ended } in p) places
    ∙ (ap (λ (n : ℕ). let p : PublisherSeen = record { places = a.places; given = n; ended = b.ended } in p) given
    ∙ ap (λ (e : Bool). let p : PublisherSeen = record { places = a.places; given = a.given; ended = e } in p) ended)
