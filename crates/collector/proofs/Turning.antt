-- The open jobs in another order, and after a turn of one of them.
use Rattle.std.proofs.Common.{◌≡◌, ◌≢◌, ℕ, ◌+◌, ◌^◌, ◌<◌, List, [], ◌∷◌, ◌++◌, map, length, refl, sym, ◌∙◌, subst, ⊎_elim, arith, length-append}
use Rattle.std.proofs.lemmas.List.{map-append}
use Rattle.std.specs.Prelude.{nat_eq}
use Rattle.std.specs.List.{AllByRecursion, IsDistinct}
use Rattle.std.specs.Global.{Global}
use Rattle.std.specs.VecDeque.{deque_capacity}
use Rattle.std.specs.declared.collections.vec_deque.VecDeque.{VecDeque}
use Rattle.chunk_core.specs.Lists.{IsAmong}
use Rattle.chunk_core.specs.Lists.IsAmong.{here, there}
use Rattle.chunk_core.proofs.Distinct.{distinct_append, distinct_head, distinct_front, distinct_tail}
use Rattle.chunk_core.proofs.Members.{among_cons, among_nil}
use Rattle.chunk_core.proofs.Filters.{among_right}
use Rattle.channel_bounded.specs.Ends.{HubSeen, ReceiverSeen}
use Rattle.channel_bounded.specs.declared.message.Msg.{Msg}
use Rattle.device_port.specs.Depot.{DepotTold}
use Rattle.device_port.specs.Sink.{SinkTold}
use Rattle.interrupt_ctx.specs.Ends.{BoardSeen}
use Rattle.join_tale.specs.Tales.{IsOpen, Tale}
use Rattle.join_tree.specs.Guests.{AreOut, Guest}
use Rattle.join_tree.specs.Progress.{Progress}
use Rattle.join_tree.proofs.Outs.{guests_stay}
use Rattle.pipeline_desc.specs.Meant.{PlanMeant}
use Rattle.row_seat.specs.declared.view.View.{View}
use Rattle.scope_tree.specs.Calls.{Seen}
use Rattle.scope_tree.specs.Trees.{seen}
use Rattle.stream_jobs.specs.declared.job.Job.{Job}
use Rattle.res_ledger.specs.declared.event.StreamNo.TheVariants.{Inner, Outer}
use Rattle.row_seat.specs.Views.{OthersFit}
use Rattle.scope_tree.specs.Trees.{Fits}
use Rattle.scope_tree.specs.declared.tree.Tree.{Tree}
use Rattle.stream_jobs.specs.Jobs.{FitsJob, IsJob, IsSameJob, seen_job}
use Rattle.stream_jobs.proofs.Others.{others_leave}
use Rattle.stream_jobs.specs.Running.{Origin}
use Rattle.dealt_streams.specs.declared.leftover.Leftover.{Leftover}
use Rattle.collector.specs.Collecting.{IsCollecting, Moment}
use Rattle.collector.specs.Members.{Members}
use Rattle.collector.specs.Streams.{AreJobs, IsJobOf, KeepsStreams, guest_of}
use Rattle.dealt_streams.specs.Parts.{Part}
use Rattle.collector.specs.Receiving.{HasGot, TakesOut}
use Rattle.chunk_core.proofs.Each.{among_each}
use Rattle.res_ledger.proofs.Mapped.{among_map}
use Rattle.collector.proofs.Opening.{is_open}
use Rattle.collector.proofs.Rotating.{among_swapped, jobs_joined, jobs_split, jobs_stay}
use Rattle.collector.proofs.Steps.{retold}

-- a call of another stream's seat leaves the fit of the main tree
pub outer_fits : {S P D : Type 0} (view : S → View P) (fits : S → D → Type 0) (t : Tree S P D) (d e : D) (k : ℕ) → OthersFit view fits (Inner k) d e → (seen view t).seat.by ≡ Outer → Fits view fits t d → Fits view fits t e
outer_fits view fits t d e k o by f = record { seat = o t.seat (λ q. let z : Outer ≡ Inner k = sym by ∙ q in cc) f.seat; sound = f.sound }

distinct_right : (xs ys : List ℕ) → IsDistinct nat_eq (xs ++ ys) → IsDistinct nat_eq ys
distinct_right [] ys h = h
distinct_right (x ∷ xs) ys h = distinct_right xs ys (distinct_tail x (xs ++ ys) h)

apart_parts : (xs ys : List ℕ) → IsDistinct nat_eq (xs ++ ys) → (x : ℕ) → IsAmong x xs → IsAmong x ys → ⊥
apart_parts [] ys h x m n = among_nil m
apart_parts (z ∷ xs) ys h x m n = ⊎_elim (λ e. distinct_head z (xs ++ ys) h (subst (λ y. IsAmong y (xs ++ ys)) e (among_right x xs ys n))) (λ i. apart_parts xs ys (distinct_tail z (xs ++ ys) h) x i n) (among_cons m)

-- the two parts the other way round
pub distinct_swapped : (xs ys : List ℕ) → IsDistinct nat_eq (xs ++ ys) → IsDistinct nat_eq (ys ++ xs)
distinct_swapped xs ys h = distinct_append ys xs (distinct_right xs ys h) (distinct_front xs ys h) (λ x m n. apart_parts xs ys h x n m)

swapped_map : {A B : Type 0} (f : A → B) (x : B) (xs ys : List A) → IsAmong x (map f (xs ++ ys)) → IsAmong x (map f (ys ++ xs))
swapped_map f x xs ys m = subst (λ l. IsAmong x l) (sym (map-append f ys xs)) (among_swapped x (map f xs) (map f ys) (subst (λ l. IsAmong x l) (map-append f xs ys) m))

module _ {S V F D T : Type 0} (M : Members S V F D T) where
  module _ (hub : HubSeen) (board : BoardSeen) (d : D) (b : Seen V) (left : List (Leftover V)) (r : ReceiverSeen) (parts : List (Part V F)) (progress : Progress V) (tale : Tale) where
    streams_turned : (xs ys : List (Job S V F V D T)) → KeepsStreams M hub board d b (xs ++ ys) left r parts progress tale → KeepsStreams M hub board d b (ys ++ xs) left r parts progress tale
    streams_turned xs ys s =
        let q = jobs_split M hub board d parts xs ys s.origins s.jobs_are in
        let us = q.0 in
        let vs = q.1 in
        let is : s.origins ≡ us ++ vs = q.2 in
        let out = subst (λ os. AreOut b progress.splits (map guest_of os)) is s.out in
        let apart = subst (λ l. IsDistinct nat_eq l) (map-append (λ (g : Guest). g.stream) (map guest_of us) (map guest_of vs)) (subst (λ l. IsDistinct nat_eq (map (λ (g : Guest). g.stream) l)) (map-append guest_of us vs) out.apart) in
        let turned = distinct_swapped (map (λ (g : Guest). g.stream) (map guest_of us)) (map (λ (g : Guest). g.stream) (map guest_of vs)) apart in
        let distinct = subst (λ l. IsDistinct nat_eq (map (λ (g : Guest). g.stream) l)) (sym (map-append guest_of vs us)) (subst (λ l. IsDistinct nat_eq l) (sym (map-append (λ (g : Guest). g.stream) (map guest_of vs) (map guest_of us))) turned) in
        record {
          origins = vs ++ us;
          jobs_are = jobs_joined M hub board d parts ys xs vs us q.4 q.3;
          out = (guests_stay V).order b progress.splits (map guest_of (us ++ vs)) (map guest_of (vs ++ us)) out (λ g m. swapped_map guest_of g vs us m) (λ g m. swapped_map guest_of g us vs m) distinct;
          opens = λ k. (λ m. (s.opens k).0 (subst (λ os. IsAmong k (map (λ (w : Origin V F). w.stream) os)) (sym is) (swapped_map (λ (w : Origin V F). w.stream) k vs us m)), λ o. swapped_map (λ (w : Origin V F). w.stream) k us vs (subst (λ os. IsAmong k (map (λ (w : Origin V F). w.stream) os)) is ((s.opens k).1 o)));
          begun = s.begun;
          gone = s.gone;
          kept = s.kept;
          apart = s.apart;
          numbers = s.numbers;
          given = s.given;
          home = s.home;
          hub_is = s.hub_is;
          got = s.got;
          made = s.made;
          closed = s.closed;
        }

  -- the jobs are origins' jobs
  pub all_jobs : (hub : HubSeen) (board : BoardSeen) (d : D) (parts : List (Part V F)) (js : List (Job S V F V D T)) (os : List (Origin V F)) → AreJobs M hub board d parts js os → AllByRecursion (λ j. (w : Origin V F) × IsJob M.view M.values M.told M.stands w j) js
  all_jobs hub board d parts [] os h = tt
  all_jobs hub board d parts (j ∷ js) [] h = absurd h
  all_jobs hub board d parts (j ∷ js) (w ∷ os) h = ((w, h.0.job), all_jobs hub board d parts js os h.1)

  -- the job of an origin
  pub job_at : (hub : HubSeen) (board : BoardSeen) (d : D) (parts : List (Part V F)) (js : List (Job S V F V D T)) (os : List (Origin V F)) (w : Origin V F) → AreJobs M hub board d parts js os → IsAmong w os → (j : Job S V F V D T) × IsAmong j js × IsJobOf M hub board d parts j w
  job_at hub board d parts [] [] w h m = absurd (among_nil m)
  job_at hub board d parts [] (o ∷ os) w h m = absurd h
  job_at hub board d parts (j ∷ js) [] w h m = absurd h
  job_at hub board d parts (j ∷ js) (o ∷ os) w h m = ⊎_elim (λ e. (j, here js, subst (λ x. IsJobOf M hub board d parts j x) (sym e) h.0)) (λ n. let r = job_at hub board d parts js os w h.1 n in (r.0, there j r.1, r.2)) (among_cons m)

  -- the first of them
  pub first_job : (hub : HubSeen) (board : BoardSeen) (d : D) (parts : List (Part V F)) (j : Job S V F V D T) (js : List (Job S V F V D T)) (os : List (Origin V F)) → AreJobs M hub board d parts (j ∷ js) os → (w : Origin V F) × (ws : List (Origin V F)) × (os ≡ w ∷ ws) × IsJobOf M hub board d parts j w × AreJobs M hub board d parts js ws
  first_job hub board d parts j js [] h = absurd h
  first_job hub board d parts j js (w ∷ ws) h = (w, ws, refl, h.0, h.1)

swapped_length : {A : Type 0} (xs ys : List A) → length (ys ++ xs) ≡ length (xs ++ ys)
swapped_length xs ys = let a = length-append xs ys in let b = length-append ys xs in omega (arith, a, b)

module _ {S V F D T : Type 0} {M : Members S V F D T} {p : PlanMeant} {d0 : DepotTold} {s0 : SinkTold} (m : Moment S V F D T) where
  -- the open jobs the other way round, in a queue with as much room
  pub turned_at : (xs ys : List (Job S V F V D T)) (q : VecDeque (Job S V F V D T) Global) → deque_capacity q ≡ deque_capacity m.collector.jobs → IsCollecting M p d0 s0 (record m { jobs = xs ++ ys }) → IsCollecting M p d0 s0 (record m { jobs = ys ++ xs; collector = record m.collector { jobs = q } })
  turned_at xs ys q room i = retold i (ys ++ xs) m.receiver m.sink m.desk q m.collector.report m.collector.stops i.tale (λ z. z) i.fits_desk
      (streams_turned M m.collector.hub m.collector.stops.board m.desk (seen M.view m.collector.tree) m.collector.left.items m.receiver i.parts i.progress i.tale xs ys i.streams)
      (record {
        is_tale = i.telling.is_tale;
        fates_are = i.telling.fates_are;
        outer_is = i.telling.outer_is;
        report_is = i.telling.report_is;
        known = i.telling.known;
        seated = i.telling.seated;
        seats = i.telling.seats ∙ sym (swapped_length xs ys);
        contexts = i.telling.contexts;
        wrote = i.telling.wrote;
      })
      i.turns i.places (swapped_length xs ys) room

  -- the first job is that of the first origin
  pub first_of : (j : Job S V F V D T) (js : List (Job S V F V D T)) (i : IsCollecting M p d0 s0 (record m { jobs = j ∷ js })) → (w : Origin V F) × (os : List (Origin V F)) × (i.streams.origins ≡ w ∷ os) × IsJobOf M m.collector.hub m.collector.stops.board m.desk i.parts j w × AreJobs M m.collector.hub m.collector.stops.board m.desk i.parts js os
  first_of j js i = first_job M m.collector.hub m.collector.stops.board m.desk i.parts j js i.streams.origins i.streams.jobs_are

-- the first job had a turn
module _ {S V F D T : Type 0} {M : Members S V F D T} {p : PlanMeant} {d0 : DepotTold} {s0 : SinkTold} (m : Moment S V F D T) (j x : Job S V F V D T) (js : List (Job S V F V D T)) (e : D) (i : IsCollecting M p d0 s0 (record m { jobs = j ∷ js })) (others : OthersFit M.view M.fits (Inner j.sender.stream) m.desk e) where
  abbrev head : (w : Origin V F) × (os : List (Origin V F)) × (i.streams.origins ≡ w ∷ os) × IsJobOf M m.collector.hub m.collector.stops.board m.desk i.parts j w × AreJobs M m.collector.hub m.collector.stops.board m.desk i.parts js os
  head = first_of m j js i

  others_apart : (y : Origin V F) → IsAmong y head.1 → j.sender.stream ≢ y.stream
  others_apart y m q =
      let out = subst (λ l. IsDistinct nat_eq (map (λ (g : Guest). g.stream) (map guest_of l))) head.2 i.streams.out.apart in
      distinct_head head.0.stream (map (λ (g : Guest). g.stream) (map guest_of head.1)) out (subst (λ k. IsAmong k (map (λ (g : Guest). g.stream) (map guest_of head.1))) (sym q ∙ head.3.job.sender) (in_guests head.1 m))
    where
      in_guests : (xs : List (Origin V F)) → IsAmong y xs → IsAmong y.stream (map (λ (g : Guest). g.stream) (map guest_of xs))
      in_guests xs (here ys) = here (map (λ (g : Guest). g.stream) (map guest_of ys))
      in_guests xs (there {xs = ys} z n) = there z.stream (in_guests ys n)

  stepped : ((w : Origin V F) → IsJob M.view M.values M.told M.stands w j → IsJob M.view M.values M.told M.stands w x) → IsSameJob (seen_job M.view M.values j) (seen_job M.view M.values x) → FitsJob M.view M.told M.fits x e
      → IsCollecting M p d0 s0 (record m { jobs = x ∷ js; desk = e })
  stepped job same fit = retold i (x ∷ js) m.receiver m.sink e m.collector.jobs m.collector.report m.collector.stops i.tale (λ z. z) (outer_fits M.view M.fits m.collector.tree m.desk e j.sender.stream others i.tree.main.by i.fits_desk)
      (record {
        origins = i.streams.origins;
        jobs_are = subst (λ os. AreJobs M m.collector.hub m.collector.stops.board e i.parts (x ∷ js) os) (sym head.2) (
          record {
            node = head.3.node;
            devices = head.3.devices;
            begun = head.3.begun;
            job = job head.0 head.3.job;
            fits_desk = fit;
            place = record {
              hub_is = same.hub ∙ head.3.place.hub_is;
              board_is = same.board ∙ head.3.place.board_is;
              context = subst (λ k. 1 + k < m.collector.stops.board.contexts) (sym same.stream) head.3.place.context;
              number = subst (λ k. 1 + k < 2 ^ 32) (sym same.stream) head.3.place.number;
            };
          },
          jobs_stay M m.collector.hub m.collector.stops.board m.desk i.parts e js head.1 (λ y w n q. record {
            node = q.node;
            devices = q.devices;
            begun = q.begun;
            job = q.job;
            fits_desk = (others_leave M.view M.values M.told M.stands M.fits).inner w j.sender.stream (others_apart w n) y m.desk e q.job q.fits_desk others;
            place = q.place;
          }) head.4,
        );
        out = i.streams.out;
        opens = i.streams.opens;
        begun = i.streams.begun;
        gone = i.streams.gone;
        kept = i.streams.kept;
        apart = i.streams.apart;
        numbers = i.streams.numbers;
        given = i.streams.given;
        home = i.streams.home;
        hub_is = i.streams.hub_is;
        got = i.streams.got;
        made = i.streams.made;
        closed = i.streams.closed;
      })
      i.telling i.turns i.places refl refl

  -- and stands behind the others
  pub turn_taken : ((w : Origin V F) → IsJob M.view M.values M.told M.stands w j → IsJob M.view M.values M.told M.stands w x) → IsSameJob (seen_job M.view M.values j) (seen_job M.view M.values x) → FitsJob M.view M.told M.fits x e
      → (q : VecDeque (Job S V F V D T) Global) → deque_capacity q ≡ deque_capacity m.collector.jobs → IsCollecting M p d0 s0 (record m { jobs = js ++ x ∷ []; desk = e; collector = record m.collector { jobs = q } })
  turn_taken job same fit q room = turned_at (record m { desk = e }) (x ∷ []) js q room (stepped job same fit)

module _ {S V F D T : Type 0} {M : Members S V F D T} {p : PlanMeant} {d0 : DepotTold} {s0 : SinkTold} {m : Moment S V F D T} where
  -- the open jobs are these
  pub with_jobs : {js : List (Job S V F V D T)} → m.jobs ≡ js → IsCollecting M p d0 s0 m → IsCollecting M p d0 s0 (record m { jobs = js })
  with_jobs is i = subst (λ l. IsCollecting M p d0 s0 (record m { jobs = l })) is i

  -- the receiver may be told apart from what was received
  pub had_received : (now : ReceiverSeen) → IsCollecting M p d0 s0 m → IsCollecting M p d0 s0 (record m { collector = record m.collector { receiver = now } })
  had_received now i = record {
    sound = i.sound;
    few_faults = i.few_faults;
    fits_desk = i.fits_desk;
    its_parts = i.its_parts;
    moves = i.moves;
    parts = i.parts;
    parts_are = i.parts_are;
    progress = i.progress;
    tale = i.tale;
    moved = i.moved;
    tree = i.tree;
    lines = i.lines;
    next = i.next;
    amid = i.amid;
    begun = i.begun;
    begun_is = i.begun_is;
    stands = i.stands;
    streams = i.streams;
    turns = i.turns;
    places = i.places;
    telling = i.telling;
    room = record { waiting = i.room.waiting; jobs_room = i.room.jobs_room; queue = i.room.queue; few = i.room.few; left = i.room.left };
  }

  -- the open stream has a job
  pub none_open : (k : ℕ) (i : IsCollecting M p d0 s0 m) → IsOpen i.tale k → AllByRecursion (λ j. j.sender.stream ≢ k) m.jobs → ⊥
  none_open k i o all =
      let a = among_map (λ (w : Origin V F). w.stream) k i.streams.origins ((i.streams.opens k).1 o) in
      let j = job_at M m.collector.hub m.collector.stops.board m.desk i.parts m.jobs i.streams.origins a.0 i.streams.jobs_are a.1 in
      among_each (λ x. x.sender.stream ≢ k) j.0 m.jobs all j.1 (j.2.job.sender ∙ a.2)

  -- and so has that of a message that came
  pub none_came : (x : Msg) (r : ReceiverSeen) (h : HasGot m.receiver x r) (i : IsCollecting M p d0 s0 m) → AllByRecursion (λ j. j.sender.stream ≢ x.stream) m.jobs → ⊥
  none_came x r h i all = none_open x.stream i (is_open M m.collector.hub m.collector.stops.board m.desk (seen M.view m.collector.tree) m.jobs m.collector.left.items m.receiver i.parts i.progress i.tale i.streams i.telling.fates_are x r h) all

  -- each job is one
  pub are_jobs : IsCollecting M p d0 s0 m → AllByRecursion (λ j. (w : Origin V F) × IsJob M.view M.values M.told M.stands w j) m.jobs
  are_jobs i = all_jobs M m.collector.hub m.collector.stops.board m.desk i.parts m.jobs i.streams.origins i.streams.jobs_are

  -- the job of a stream was taken out
  pub job_out : (k : ℕ) (q : VecDeque (Job S V F V D T) Global) (j : Job S V F V D T) → TakesOut k m.jobs q.items j → deque_capacity q ≡ deque_capacity m.collector.jobs → IsCollecting M p d0 s0 m → IsCollecting M p d0 s0 (record m { jobs = j ∷ q.items; collector = record m.collector { jobs = q } })
  job_out k q j o room i = subst (λ l. IsCollecting M p d0 s0 (record m { jobs = j ∷ l; collector = record m.collector { jobs = q } })) (sym o.new_is)
      (turned_at m o.before (j ∷ o.behind) q room (subst (λ l. IsCollecting M p d0 s0 (record m { jobs = l })) o.old_is i))
