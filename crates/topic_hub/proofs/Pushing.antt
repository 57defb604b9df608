-- A loop that pushes to each subscriber.
use Rattle.std.proofs.Common.{◌≡◌, ◌≢◌, ℕ, zero, suc, ◌+◌, ◌<◌, ◌≤◌, ◌⊎◌, inl, inr, List, [], ◌∷◌, ◌++◌, length, map, slice_set, Option, Some, None, refl, sym, ap, ◌∙◌, subst, ⊎_elim, arith, append-nil, append_assoc}
use Rattle.std.specs.Prelude.{option_to_list}
use Rattle.std.proofs.lemmas.Bool.{cases_eq}
use Rattle.std.proofs.lemmas.List.{map-append}
use Rattle.chunk_core.specs.Totals.{IsAt}
use Rattle.chunk_core.proofs.Places.{at_set}
use Rattle.chunk_core.proofs.Totals.{one_at, put_here, put_else}
use Rattle.channel_bounded.specs.Ends.{HubSeen}
use Rattle.channel_bounded.specs.declared.message.Body.{Body}
use Rattle.channel_bounded.specs.declared.message.Msg.{Msg}
use Rattle.topic_hub.specs.declared.place.Place.{Place}
use Rattle.topic_hub.specs.declared.place.Place.TheVariants as place
use Rattle.topic_hub.specs.declared.place.Seat.{Seat}
use Rattle.topic_hub.specs.declared.publisher.Pushed.{Pushed}
use Rattle.topic_hub.specs.declared.publisher.Pushed.TheVariants as answer
use Rattle.topic_hub.specs.Places.{Every, Pushes, Waits, bodies, due_at, first_waiting, pending_at, seat_pushed}
use Rattle.topic_hub.specs.Topics.{FitsPlace, IsOf, KeepsTopic, NothingPending, PublisherSeen, PushesAll, Tells, WaitsFor, due_in, pending_in}
use Rattle.topic_hub.proofs.Every.{Along, along_more, along_whole, at_within, every_back, every_on}
use Rattle.topic_hub.proofs.Topics.{IsSame, keeps, only_old}

-- a number for each answer
abbrev waits_at : Pushed → ℕ
waits_at answer.All = 0
waits_at (answer.Waiting i) = 1

some_is_none : {X : Type 0} (body : Body) → Some body ≡ None → X
some_is_none body e = absurd (let n : 1 ≡ 0 = ap (λ (o : Option Body). length (option_to_list o)) e in omega arith)

due_every : (R : ℕ → Place → Place → Type 0) (a b : List Place) → Every R a b → ((i : ℕ) (x y : Place) → R i x y → due_at y ≡ due_at x) → (i : ℕ) → due_in b i ≡ due_in a i
due_every R [] [] e f i = refl
due_every R [] (y ∷ ys) e f i = let same = e.same in absurd (omega arith)
due_every R (x ∷ xs) [] e f i = let same = e.same in absurd (omega arith)
due_every R (x ∷ xs) (y ∷ ys) e f zero = f 0 x y (e.each 0 x y refl refl)
due_every R (x ∷ xs) (y ∷ ys) e f (suc i) = due_every (λ i. R (suc i)) xs ys (let same = e.same in record { same = omega arith; each = λ i u v p q. e.each (suc i) u v p q }) (λ i. f (suc i)) i

pending_some : (xs : List Place) (i : ℕ) (body : Body) → pending_in xs i ≡ Some body → (x : Place) × IsAt xs i x × (pending_at x ≡ Some body)
pending_some [] i body e = some_is_none body (sym e)
pending_some (x ∷ xs) zero body e = (x, refl, e)
pending_some (x ∷ xs) (suc i) body e = pending_some xs i body e

pub nothing_in : (xs : List Place) → ((i : ℕ) (x : Place) → IsAt xs i x → pending_at x ≡ None) → (i : ℕ) → pending_in xs i ≡ None
nothing_in [] h i = refl
nothing_in (x ∷ xs) h zero = h 0 x refl
nothing_in (x ∷ xs) h (suc i) = nothing_in xs (λ i u p. h (suc i) u p) i

module _ (may : List Msg → List Msg → Type 0) (queues : List HubSeen) where
  -- its queue and the answer to it
  pub record WasPushed (i : ℕ) (x y : Place) : Type 0 where
    pub queue : HubSeen
    pub at : IsAt queues i queue
    pub number : (seat : Seat) → x ≡ place.Taken seat → seat.sender.stream ≡ i
    pub pushed : Pushed
    pub pushes : Pushes may queue x y pushed

  sent_due : (queue : HubSeen) (seat : Seat) (o : Option Body) → seat.pending ≡ o → due_at (place.Taken (seat_pushed may queue seat o)) ≡ due_at (place.Taken seat)
  sent_due queue seat None e = refl
  sent_due queue seat (Some body) e =
      append-nil (bodies (seat.sender.sent ++ record { stream = seat.sender.stream; body = body } ∷ []))
      ∙ (map-append (λ (m : Msg). m.body) seat.sender.sent (record { stream = seat.sender.stream; body = body } ∷ [])
      ∙ ap (λ (o : Option Body). bodies seat.sender.sent ++ option_to_list o) (sym e))

  sent_pending : (queue : HubSeen) (seat : Seat) (o : Option Body) → seat.pending ≡ o → (seat_pushed may queue seat o).pending ≡ None
  sent_pending queue seat None e = e
  sent_pending queue seat (Some body) e = refl

  sent_same : (queue : HubSeen) (seat : Seat) (o : Option Body) → ((seat_pushed may queue seat o).sender.hub ≡ seat.sender.hub) × ((seat_pushed may queue seat o).sender.stream ≡ seat.sender.stream)
  sent_same queue seat None = (refl, refl)
  sent_same queue seat (Some body) = (refl, refl)

  one_due : (queue : HubSeen) (x y : Place) (r : Pushed) → Pushes may queue x y r → due_at y ≡ due_at x
  one_due queue (place.Free receiver) y r p = ap due_at p.0
  one_due queue (place.Taken seat) y answer.All p = ap due_at p ∙ sent_due queue seat seat.pending refl
  one_due queue (place.Taken seat) y (answer.Waiting k) p = ap due_at p.same
  one_due queue place.Settled y r p = ap due_at p.0

  one_same : (i : ℕ) (queue : HubSeen) (x y : Place) (r : Pushed) → Pushes may queue x y r → IsSame i x y
  one_same i queue (place.Free receiver) y r p = p.0
  one_same i queue (place.Taken seat) y answer.All p = (seat_pushed may queue seat seat.pending, p, (sent_same queue seat seat.pending).0, (sent_same queue seat seat.pending).1)
  one_same i queue (place.Taken seat) y (answer.Waiting k) p = (seat, p.same, refl, refl)
  one_same i queue place.Settled y r p = p.0

  one_sent : (queue : HubSeen) (x y : Place) → Pushes may queue x y answer.All → pending_at y ≡ None
  one_sent queue (place.Free receiver) y p = ap pending_at p.0
  one_sent queue (place.Taken seat) y p = ap pending_at p ∙ sent_pending queue seat seat.pending refl
  one_sent queue place.Settled y p = ap pending_at p.0

  one_waits : (queue : HubSeen) (x y : Place) (k : ℕ) → Pushes may queue x y (answer.Waiting k) → (seat : Seat) × (x ≡ place.Taken seat) × Waits may queue seat y k
  one_waits queue (place.Free receiver) y k p = absurd (let n : 1 ≡ 0 = ap waits_at p.1 in omega arith)
  one_waits queue (place.Taken seat) y k p = (seat, refl, p)
  one_waits queue place.Settled y k p = absurd (let n : 1 ≡ 0 = ap waits_at p.1 in omega arith)

  -- what waits at a place waits there
  waits_for : (a b : List Place) (i : ℕ) (x y : Place) (queue : HubSeen) (k : ℕ) → IsAt a i x → IsAt b i y → IsAt queues i queue → Pushes may queue x y (answer.Waiting k) → WaitsFor may queues a b i
  waits_for a b i x y queue k p q at h = let w = one_waits queue x y k h in record {
    seat = w.0;
    queue = queue;
    body = w.2.body;
    old = subst (λ z. IsAt a i z) w.1 p;
    now = subst (λ z. IsAt b i z) w.2.same q;
    at = at;
    waits = w.2.pending;
    full = w.2.full;
  }

  -- the answers so far: nothing is pending at the places passed, or one of them waits
  abbrev pub Answered : ℕ → List Place → List Place → Pushed → Type 0
  Answered i a b answer.All = (j : ℕ) (y : Place) → j < i → IsAt b j y → pending_at y ≡ None
  Answered i a b (answer.Waiting k) = (k < i) × WaitsFor may queues a b k

  -- one more answer
  pub answered : (i : ℕ) (a b : List Place) (x y : Place) (queue : HubSeen) (so_far next : Pushed) → Answered i a b so_far → IsAt a i x → IsAt b i x → IsAt queues i queue
      → ((seat : Seat) → x ≡ place.Taken seat → seat.sender.stream ≡ i) → Pushes may queue x y next → Answered (i + 1) a (slice_set b i y) (first_waiting so_far next)
  answered i a b x y queue (answer.Waiting k) next h p q at number pushes = let l = h.0 in (
    omega arith,
    record {
      seat = h.1.seat;
      queue = h.1.queue;
      body = h.1.body;
      old = h.1.old;
      at = h.1.at;
      waits = h.1.waits;
      full = h.1.full;
      now = put_else b i k (place.Taken h.1.seat) y (λ e. absurd (omega arith)) h.1.now;
    },
  )
  answered i a b x y queue answer.All answer.All h p q at number pushes = λ j z l g. ⊎_elim
      (λ e. subst (λ v. pending_at v ≡ None) e.1 (one_sent queue x y pushes))
      (λ e. let n = e.0 in h j z (omega arith) e.1)
      (at_set b i j y z g)
  answered i a b x y queue answer.All (answer.Waiting k) h p q at number pushes =
      let w = one_waits queue x y k pushes in let own : k ≡ i = w.2.number ∙ number w.0 w.1 in
      let waiting = waits_for a (slice_set b i y) i x y queue k p (put_here b i x y q) at pushes in
      subst (λ n. (n < i + 1) × WaitsFor may queues a (slice_set b i y) n) (sym own) (omega arith, waiting)

  module _ (a b : PublisherSeen) (e : Every WasPushed a.places b.places) (given : b.given ≡ a.given) (ended : b.ended ≡ a.ended) where
    still : (i : ℕ) (body : Body) → pending_in b.places i ≡ Some body → WaitsFor may queues a.places b.places i
    still i body n = let y = pending_some b.places i body n in let x = every_back WasPushed a.places b.places e i y.0 y.1 in
        by_answer x.0 y.0 x.1 y.1 y.2 x.2.queue x.2.at x.2.pushed x.2.pushes where
          by_answer : (x y : Place) → IsAt a.places i x → IsAt b.places i y → pending_at y ≡ Some body → (queue : HubSeen) → IsAt queues i queue → (r : Pushed) → Pushes may queue x y r → WaitsFor may queues a.places b.places i
          by_answer x y p q n queue at answer.All h = some_is_none body (sym n ∙ one_sent queue x y h)
          by_answer x y p q n queue at (answer.Waiting k) h = waits_for a.places b.places i x y queue k p q at h

    tells : (i : ℕ) → length a.places ≤ i → (pushed : Pushed) → Answered i a.places b.places pushed → Tells may queues a b pushed
    tells i l answer.All h = nothing_in b.places (λ j y p. let w = at_within b.places j y p in let same = e.same in h j y (omega arith) p)
    tells i l (answer.Waiting k) h = h.1

    every_same : Every IsSame a.places b.places
    every_same = record { same = e.same; each = λ i x y p q. let w = e.each i x y p q in one_same i w.queue x y w.pushed w.pushes }

    pub pushes_all : (i : ℕ) → length a.places ≤ i → (pushed : Pushed) → Answered i a.places b.places pushed → PushesAll may queues a b pushed
    pushes_all i l pushed h = record {
      same_due = due_every WasPushed a.places b.places e (λ i x y w. one_due w.queue x y w.pushed w.pushes);
      waits = still;
      tells = tells i l pushed h;
      only = only_old a b every_same;
      given = given;
      ended = ended;
    }

    pub pushing_keeps : KeepsTopic a b
    pushing_keeps = keeps a b every_same given
