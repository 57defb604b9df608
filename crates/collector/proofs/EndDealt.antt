-- The end of a stream is dealt with, and the collector goes on.
use Rattle.std.proofs.Common.{◌≡◌, ◌≢◌, ◌⊎◌, ℕ, suc, ◌+◌, ◌<◌, List, [], ◌∷◌, ◌++◌, filter, map, length, Option, Some, refl, sym, ◌∙◌, ap, subst, inl, inr, ⊎_elim, arith, append_assoc, length-append}
use Rattle.std.specs.Prelude.{vec_capacity}
use Rattle.std.specs.Global.{Global}
use Rattle.chunk_core.specs.Lists.{IsAmong}
use Rattle.chunk_core.specs.Lists.IsAmong.{here, there}
use Rattle.chunk_core.specs.declared.code.Exit.{Exit}
use Rattle.chunk_core.specs.declared.code.How.{How}
use Rattle.chunk_core.specs.declared.code.How.TheVariants as how
use Rattle.chunk_core.proofs.Distinct.{distinct_head}
use Rattle.chunk_core.proofs.Filters.{among_right}
use Rattle.chunk_core.proofs.Members.{among_last, among_left}
use Rattle.channel_bounded.specs.Ends.{ReceiverSeen}
use Rattle.channel_bounded.specs.Streams.{IsWhole}
use Rattle.channel_bounded.specs.declared.message.Msg.{Msg}
use Rattle.device_port.specs.Depot.{DepotTold}
use Rattle.device_port.specs.Device.{DeviceTold}
use Rattle.device_port.specs.Sink.{SinkTold}
use Rattle.interrupt_ctx.specs.Ends.{BoardSeen}
use Rattle.interrupt_ctx.specs.Views.{interruption}
use Rattle.interrupt_ctx.specs.declared.why.Stop.{Stop}
use Rattle.interrupt_ctx.specs.declared.why.Why.TheVariants as why
use Rattle.join_report.specs.Calls.{EndsStream, after_end}
use Rattle.join_report.specs.Reports.{HasStream}
use Rattle.join_report.specs.Stopping.{IsSeated, TellsKnown, view_of, with_seat_in}
use Rattle.join_report.specs.declared.report.Report.{Report}
use Rattle.join_report.specs.declared.stops.Stops.{Stops}
use Rattle.join_report.proofs.Steps.{heeds as report_heeds, learns}
use Rattle.join_tale.specs.Keeping.{IsTale}
use Rattle.join_tale.specs.Steps.{heeded}
use Rattle.join_tale.specs.Tales.{FailedSo, IsOpen, Tale}
use Rattle.join_tale.proofs.Heeding.{heeds as tale_heeds}
use Rattle.join_tree.specs.Given.{GivesMore}
use Rattle.join_tree.specs.Guests.{AreOut, Guest, IsOut}
use Rattle.join_tree.specs.Mains.{IsMain}
use Rattle.join_tree.specs.Notes.{is_table_note}
use Rattle.join_tree.specs.Progress.{Progress, joining}
use Rattle.join_tree.specs.Steps.{KeepsRows}
use Rattle.pipeline_desc.specs.Meant.{PlanMeant, stream_limit}
use Rattle.pull_stepper.specs.Held.{FinishesDevice}
use Rattle.res_ledger.specs.declared.event.Event.{Event}
use Rattle.res_ledger.specs.declared.event.StreamNo.{StreamNo}
use Rattle.res_ledger.specs.declared.event.StreamNo.TheVariants.{Inner, Outer}
use Rattle.res_ledger.specs.declared.event.What.TheVariants.{Close}
use Rattle.row_seat.specs.declared.view.View.{View}
use Rattle.row_seat.specs.Views.{IsFreshStamp, OthersFit, joined}
use Rattle.scope_tree.specs.Calls.{KeepsScopes, Seen, TakesRoom}
use Rattle.scope_tree.specs.Trees.{Fits, seen}
use Rattle.scope_tree.specs.Trace.{owed}
use Rattle.scope_tree.specs.declared.tree.Tree.{Tree}
use Rattle.scope_tree.proofs.Follows.{released_follows, same_by}
use Rattle.std.specs.declared.vec.Vec.{Vec}
use Rattle.stream_jobs.specs.declared.job.Job.{Job}
use Rattle.stream_jobs.specs.declared.job.JobEnd.{JobEnd}
use Rattle.stream_jobs.specs.Jobs.{EndsJob, FitsJob, IsAt, IsJob, seen_job}
use Rattle.stream_jobs.specs.Messages.{end_message}
use Rattle.stream_jobs.specs.Learned.{HasLearned, HasSetFor}
use Rattle.stream_jobs.specs.Places.{HasPlaces}
use Rattle.stream_jobs.specs.Running.{Origin}
use Rattle.stream_jobs.proofs.Others.{others_leave}
use Rattle.tree_families.specs.Families.{Split}
use Rattle.collector.specs.declared.collector.Collector.{Collector}
use Rattle.dealt_streams.specs.declared.leftover.Leftover.{Leftover}
use Rattle.dealt_streams.specs.Places.{ArePlaced, ClosedAs, KeepsPlaces}
use Rattle.dealt_streams.specs.Works.{plan_bounds}
use Rattle.dealt_streams.proofs.Placing.{closed_so, heed, placed_both, placed_heed, placed_job, placed_more, placed_still, placed_until}
use Rattle.collector.specs.Collecting.{IsCollecting, Moment, having_job}
use Rattle.collector.specs.declared.waiting.Waiting.{Waiting}
use Rattle.collector.specs.Members.{Members}
use Rattle.collector.proofs.Turns.{turns_joined}
use Rattle.collector.specs.Streams.{AreJobs, IsJobOf, KeepsStreams, guest_of}
use Rattle.collector.specs.Trees.{KeepsTree}
use Rattle.collector.specs.Receiving.{HasGot, StopsThose}
use Rattle.collector.proofs.EndTaken.{GotAll, behind, got_all, streams_end}
use Rattle.collector.proofs.EndTold.{EndComes, HasHeeded, HasSetOwn, comes, end_obeyed, end_sets, has_heeded, is_tale, until_is, v}
use Rattle.collector.proofs.LoadTaken.{grown}
use Rattle.collector.proofs.Loads.{wrote_same}
use Rattle.collector.proofs.Opening.{is_open}
use Rattle.collector.proofs.Rotating.{jobs_stay}
use Rattle.outer_source.specs.declared.source.OuterSource.{OuterSource}
use Rattle.collector.proofs.Standing.{stands_on}
use Rattle.collector.proofs.Tree.{amid_kept, gives_same}
use Rattle.collector.proofs.Turning.{first_of, outer_fits}

module _ {V : Type 0} (told : V → DeviceTold) (p : PlanMeant) where
  -- no event and no payload is lost where the tree of a stream comes back
  keeps : (a b : Seen V) (w : View V) → b ≡ record a { seat = joined a.seat w } → KeepsRows a.seat b.seat
  keeps a b w is = subst (λ (x : Seen V). KeepsRows a.seat x.seat) (sym is) (record { noted = λ e m. among_left w.events m; left = λ y m. among_left w.left m; given = λ y m. among_left w.given m; opened = λ y m. inl m })

  -- the tree came back to the main one a, which is b then and may go on so, and these are out still; n events stand in the ledger, with all of b
  pub record TakesIn (q : Progress V) (ms : List Split) (gs : List Guest) (a : Seen V) (w : View V) (n : ℕ) (b : Seen V) : Type 0 where
    pub main : IsMain (FinishesDevice told) p.max_open (stream_limit p) b q
    pub out : AreOut b ms gs
    pub is : b ≡ record a { seat = joined a.seat w }
    pub owes : owed b.seat ≡ owed a.seat
    pub gives : GivesMore [] a b
    pub scopes : KeepsScopes a b
    pub room : TakesRoom 0 0 a b
    pub fresh : IsFreshStamp b.seat n

  -- so what is known of the tree stays known
  tree_joined : {waits : ℕ} {a : Seen V} {outer : Option How} {given : OuterSource} {ws : List Waiting} {dealt : ℕ} {q : Progress V} → KeepsTree p told waits a outer given ws dealt q → (b y : Seen V) (w : View V) → b ≡ record a { seat = joined a.seat w } → owed b.seat ≡ owed a.seat
      → IsMain (FinishesDevice told) p.max_open (stream_limit p) b (joining q y) → GivesMore [] a b → KeepsTree p told waits b outer given ws dealt (joining q y)
  tree_joined {a = a} h b y w is owes main gives =
      let empty : b.seat.empty ≡ a.seat.empty ++ w.empty = ap (λ (x : Seen V). x.seat.empty) is in
      let splits : b.seat.splits ≡ a.seat.splits = ap (λ (x : Seen V). x.seat.splits) is in
      let spare : b.seat.spare ≡ a.seat.spare + w.spare = ap (λ (x : Seen V). x.seat.spare) is in
      record {
        main = main;
        leased_is = h.leased_is;
        next_is = h.next_is;
        root_is = h.root_is;
        waits_are = h.waits_are;
        rows = h.rows;
        few = h.few;
        some = h.some;
        empty = λ k r l m i. subst (λ xs. IsAmong r xs) (sym empty) (among_left w.empty (h.empty k r l m i));
        splits = let s = h.splits in omega (arith, s, splits);
        spare = let s = h.spare in omega (arith, s, spare, owes);
        noted = λ e. h.noted e ∙ sym (ap (λ E. filter is_table_note E) (gives_same a b gives));
      }

module _ {S V F D T : Type 0} {M : Members S V F D T} {p : PlanMeant} {d0 : DepotTold} {s0 : SinkTold} {m : Moment S V F D T} (job : Job S V F V D T) (i : IsCollecting M p d0 s0 (having_job job m)) (k : ℕ) (h : How) (r : ReceiverSeen) (got : HasGot m.receiver (end_message k h) r) (number : job.sender.stream ≡ k) where
  abbrev pub c : Collector S V F D T
  c = m.collector

  abbrev a : Seen V
  a = seen M.view c.tree

  pub first : (w : Origin V F) × (os : List (Origin V F)) × (i.streams.origins ≡ w ∷ os) × IsJobOf M c.hub c.stops.board m.desk i.parts job w × AreJobs M c.hub c.stops.board m.desk i.parts m.jobs os
  first = first_of m job m.jobs i

  abbrev pub w : Origin V F
  w = first.0

  abbrev pub os : List (Origin V F)
  os = first.1

  pub w_is : w.stream ≡ k
  w_is = sym first.3.job.sender ∙ number

  pub open_end : IsOpen i.tale k
  open_end = is_open M c.hub c.stops.board m.desk a (job ∷ m.jobs) c.left.items m.receiver i.parts i.progress i.tale i.streams i.telling.fates_are (end_message k h) r got

  abbrev pub some_job : (x : Origin V F) × IsJob M.view M.values M.told M.stands x job
  some_job = (w, first.3.job)

  pub job_fits : FitsJob M.view M.told M.fits job m.desk
  job_fits = first.3.fits_desk

  pub job_place : IsAt (seen_job M.view M.values job) c.hub c.stops.board
  job_place = first.3.place

  pub ends_below : k < stream_limit p
  ends_below = let e = job_place.context in let n = i.telling.contexts in omega (arith, e, n, number)

  pub has_stream : HasStream c.report k
  has_stream = let n = i.telling.report_is.unwritten in let b = ends_below in omega (arith, n, b)

  pub left_room : length c.left.items < vec_capacity c.left
  left_room = let l = i.room.left in omega (arith, l)

  pub hub_is : r.hub ≡ c.hub.id
  hub_is = ap (λ (x : ReceiverSeen). x.hub) got.is ∙ i.streams.hub_is

  pub out_first : AreOut a i.progress.splits (guest_of w ∷ map guest_of os)
  out_first = subst (λ l. AreOut a i.progress.splits (map guest_of l)) first.2 i.streams.out

  pub guest_out : IsOut a i.progress.splits (guest_of w)
  guest_out = out_first.each (guest_of w) (here (map guest_of os))

  apart : (x : Origin V F) → IsAmong x os → k ≢ x.stream
  apart x n e = distinct_head w.stream (map (λ (g : Guest). g.stream) (map guest_of os)) out_first.apart (subst (λ j. IsAmong j (map (λ (g : Guest). g.stream) (map guest_of os))) (sym e ∙ sym w_is) (in_guests os n))
    where
      in_guests : (xs : List (Origin V F)) → IsAmong x xs → IsAmong x.stream (map (λ (g : Guest). g.stream) (map guest_of xs))
      in_guests xs (here ys) = here (map (λ (g : Guest). g.stream) (map guest_of ys))
      in_guests xs (there {xs = ys} y n) = there y.stream (in_guests ys n)

  module _ (d1 : D) (others : OthersFit M.view M.fits (Inner job.sender.stream) m.desk d1) where
    pub tree_fits : Fits M.view M.fits c.tree d1
    tree_fits = outer_fits M.view M.fits c.tree m.desk d1 job.sender.stream others i.tree.main.by i.fits_desk

    module _ (e : JobEnd S V) (ends : EndsJob M.view M.told M.stands w e) where
      end_by : (M.view e.seat).by ≡ Inner w.stream
      end_by = let l = ends.left in ap (λ (x : View V). x.by) l.leaves.seat_is ∙ (same_by (released_follows l.leaves.cancels.left.2) ∙ (l.run.since.alone.by ∙ l.begun.guest.by))

      last_by : ends.left.leaves.last.seat.by ≡ Inner k
      last_by = sym (ap (λ (x : View V). x.by) ends.left.leaves.seat_is) ∙ (end_by ∙ ap Inner w_is)

      module _ (d2 : D) (B : Tree S V D) (back : (o : S) → (M.view o).by ≢ Outer → (M.view o).by ≢ (M.view e.seat).by → M.fits o d1 → M.fits o d2) where
        -- the jobs that are open still
        jobs_on : AreJobs M c.hub c.stops.board d2 i.parts m.jobs os
        jobs_on = jobs_stay M c.hub c.stops.board m.desk i.parts d2 m.jobs os (λ j x n q. record {
          node = q.node;
          devices = q.devices;
          begun = q.begun;
          job = q.job;
          fits_desk =
              let ne : job.sender.stream ≢ x.stream = λ z. apart x n (sym number ∙ z) in
              let law = others_leave M.view M.values M.told M.stands M.fits in
              let one = law.inner x job.sender.stream ne j m.desk d1 q.job q.fits_desk others in
              law.both x job.sender.stream ne j d1 d2 q.job one (λ o f b y. back o f (λ z. b (z ∙ (end_by ∙ ap Inner (w_is ∙ sym number)))) y);
          place = q.place;
        }) first.4

        abbrev b : Seen V
        b = seen M.view B

        module _ (n : ℕ) (taken : TakesIn M.told p (joining i.progress ends.left.leaves.last) i.progress.splits (map guest_of os) a (M.view e.seat) n b) (B_fits : Fits M.view M.fits B d2) (queued : List Msg) (whole : IsWhole e.sender.stream e.sender.sent r.got queued) (L : Vec (Leftover V) Global) (L_is : L.items ≡ c.left.items ++ record { shelf = e.shelf; unopened = e.unopened } ∷ []) (L_room : vec_capacity L ≡ vec_capacity c.left)
            (report : Report) (reported : EndsStream k h c.report report) (settled : IsSeated (with_seat_in c.stops e.board)) (stops : Stops) (those : StopsThose p k (length p.streams) n (with_seat_in c.stops e.board) stops) (seated : IsSeated stops) where
          abbrev last : Seen V
          last = ends.left.leaves.last

          whole_had : IsWhole e.sender.stream e.sender.sent (m.receiver.got ++ end_message k h ∷ []) queued
          whole_had = subst (λ (x : ReceiverSeen). IsWhole e.sender.stream e.sender.sent x.got queued) got.is whole

          all : GotAll k h m.receiver.got e
          all = got_all M.view M.told M.stands w e ends k w_is h m.receiver.got queued whole_had

          set_for : HasSetFor k e.board.view (Some h)
          set_for = subst (λ x. HasSetFor k e.board.view (Some x)) all.how_so (subst (λ x. HasSetFor x e.board.view (Some e.how)) w_is ends.learned.set)

          -- what it has set and found, where in the ledger
          places : HasPlaces k (M.view e.seat) e.board.view h
          places = subst (λ x. HasPlaces k (M.view e.seat) e.board.view x) all.how_so (subst (λ x. HasPlaces x (M.view e.seat) e.board.view e.how) w_is ends.places)

          learned_so : HasLearned k w.board e.board (Some h)
          learned_so = subst (λ x. HasLearned k w.board e.board (Some x)) all.how_so (subst (λ x. HasLearned x w.board e.board (Some e.how)) w_is ends.learned)

          abbrev os' : List (StreamNo × Stop)
          os' = heed k (M.view e.seat) e.board.view h places

          -- the tale that has what the stream obeyed
          abbrev heard : Tale
          heard = heeded i.tale os'

          heard_is : IsTale (plan_bounds p) heard
          heard_is = tale_heeds (plan_bounds p) i.tale i.telling.is_tale os'

          obeyed_so : HasHeeded heard k h e.board.view
          obeyed_so = has_heeded i.tale k (M.view e.seat) e.board.view h places

          -- where one stream is open at a time no seat is out now, and so all that is known is set
          own_set : HasSetOwn p heard k e.board.view
          own_set one x m =
              let few = i.room.few in
              let seats = i.telling.seats in
              subst (λ l. IsAmong (interruption (suc k) x) (l ++ e.board.view.set)) (sym i.telling.known.set)
              (settled.settled (omega (arith, few, seats, one)) (suc k) x (inr (among_right (interruption (suc k) x) (view_of c.stops).seen e.board.view.seen m)))

          abbrev tale : Tale
          tale = v p heard k h heard_is open_end e.board.view set_for obeyed_so own_set (with_seat_in c.stops e.board) stops n those

          ending : EndComes heard (after_end heard k h) k h
          ending = comes p heard k h heard_is open_end e.board.view set_for obeyed_so own_set (with_seat_in c.stops e.board) stops n those

          ending_learned : EndComes i.tale tale k h
          ending_learned = record {
            fates = ending.fates;
            outer = ending.outer;
            pulled = ending.pulled;
            room = ending.room;
            cut = ending.cut;
            frames = ending.frames;
            memory = ending.memory;
            more = ending.more;
            came = ending.came;
            kept = ending.kept;
            back = ending.back;
            got = ending.got;
          }

          abbrev R : ReceiverSeen
          R = record r { closed = r.closed ++ (e.sender.stream, e.sender.sent) ∷ [] }

          R_is : R ≡ behind M i.parts i.progress m.receiver i.tale tale k h ending_learned open_end last e.sender.sent
          R_is = ap (λ (x : ReceiverSeen). record x { closed = x.closed ++ (e.sender.stream, e.sender.sent) ∷ [] }) got.is ∙ ap (λ j. record (grown m.receiver (end_message k h)) { closed = m.receiver.closed ++ (j, e.sender.sent) ∷ [] }) (ends.sender ∙ w_is)

          handed : (z : ℕ × V) → IsAmong z a.seat.given ⊎ IsAmong z ends.left.leaves.last.seat.given → IsAmong z b.seat.given
          handed z n = subst (λ (u : Seen V). IsAmong z u.seat.given) (sym taken.is) (⊎_elim (λ q. among_left (M.view e.seat).given q) (λ q. among_right z a.seat.given (M.view e.seat).given (subst (λ (u : View V). IsAmong z u.given) (sym ends.left.leaves.seat_is) q)) n)

          streams_now : KeepsStreams M c.hub c.stops.board d2 b m.jobs L.items R i.parts (joining i.progress last) tale
          streams_now = subst (λ l. KeepsStreams M c.hub c.stops.board d2 b m.jobs l R i.parts (joining i.progress last) tale) (sym L_is)
              (subst (λ x. KeepsStreams M c.hub c.stops.board d2 b m.jobs (c.left.items ++ record { shelf = e.shelf; unopened = e.unopened } ∷ []) x i.parts (joining i.progress last) tale) (sym R_is)
              (streams_end M i.parts i.progress m.receiver i.tale tale k h ending_learned open_end last e.sender.sent c.hub c.stops.board m.desk d2 a b job m.jobs c.left.items i.streams w os first.2 w_is jobs_on taken.out handed first.3.node first.3.devices e first.3.begun ends all refl ends.left.leaves.seat_is))

          known : TellsKnown tale stops
          known = record {
            set = ap (λ l. l ++ (e.board.view.set ++ those.set)) ((end_sets heard k h).0 ∙ i.telling.known.set) ∙ (sym (append_assoc (view_of c.stops).set e.board.view.set those.set) ∙ sym those.learns.set);
            seen = ap (λ l. l ++ (e.board.view.seen ++ those.seen)) ((end_sets heard k h).1 ∙ i.telling.known.seen) ∙ (sym (append_assoc (view_of c.stops).seen e.board.view.seen those.seen) ∙ sym those.learns.seen);
          }

          -- Where the closes stand.

          closed_now : (is : ℕ → Type 0) → ((x : Event) (y : Exit) → IsAmong x (M.view e.seat).events → x.what ≡ Close 0 y → is x.stamp) → ClosedAs b (joining i.progress last) is (Inner k)
          closed_now is all = closed_so (plan_bounds p) b (joining i.progress last) tale last (among_last i.progress.back last) k last_by h ending.came (M.view e.seat) ends.left.leaves.seat_is is all

          untils : (x : ℕ) (z : Stop) → IsAmong (interruption x z) those.set → (z.why ≡ why.Until) × ((j : ℕ) × (x ≡ suc j) × ((plan_bounds p).until j ≡ Some k)) × ClosedAs b (joining i.progress last) (λ m. m < z.at) (Inner k)
          untils x z m =
              let r = those.only x z m in
              let events = ap (λ (u : Seen V). u.seat.events) taken.is in
              let before = closed_now (λ q. q < n) (λ f y g what. taken.fresh.1 f (subst (λ l. IsAmong f l) (sym events) (among_right f a.seat.events (M.view e.seat).events g))) in
              (ap (λ (q : Stop). q.why) r.0, (r.1.0, r.1.1, until_is p r.1.0 k r.1.2), subst (λ (q : Stop). ClosedAs b (joining i.progress last) (λ m. m < q.at) (Inner k)) (sym r.0) before)

          fails : (j : StreamNo) → FailedSo i.tale j → FailedSo tale j
          fails Outer f = (f.0, ending.outer ∙ f.1)
          fails (Inner j) f = (f.0, ending.kept j (how.Fault f.0) f.1)

          places_now : KeepsPlaces (plan_bounds p) b (joining i.progress last) tale
          places_now =
              let q = joining i.progress last in
              let bounds = plan_bounds p in
              let ws = e.board.view.set ++ those.set in
              let old = placed_still bounds a b i.progress q i.tale tale i.tale.obeyed i.tale.set (keeps M.told p a b (M.view e.seat) taken.is).noted (λ y m. among_left (last ∷ []) m) fails i.places in
              let job = placed_job bounds b q tale last (among_last i.progress.back last) k last_by h ending.came (M.view e.seat) ends.left.leaves.seat_is w.board e.board places learned_so in
              let obeyed = placed_heed bounds b q tale last (among_last i.progress.back last) k last_by h ending.came (M.view e.seat) ends.left.leaves.seat_is w.board e.board places learned_so in
              let set = placed_more bounds b q tale [] [] e.board.view.set those.set job (placed_until bounds b q tale k those.set untils) in
              let all = placed_more bounds b q tale i.tale.obeyed os' i.tale.set ws old (placed_both bounds b q tale os' ws obeyed set) in
              subst (λ xs. ArePlaced bounds b q tale xs tale.set) (sym (end_obeyed heard k h)) (subst (λ xs. ArePlaced bounds b q tale (i.tale.obeyed ++ os') (xs ++ ws)) (sym (end_sets heard k h).0) all)

          pub ended_collecting : IsCollecting M p d0 s0 (record m { receiver = R; desk = d2; collector = record c { tree = B; stops = stops; receiver = R; report = report; left = L } })
          ended_collecting = record {
            sound = i.sound;
            few_faults = i.few_faults;
            fits_desk = B_fits;
            its_parts = i.its_parts;
            moves = i.moves;
            parts = i.parts;
            parts_are = i.parts_are;
            progress = joining i.progress last;
            tale = tale;
            moved = i.moved;
            tree = tree_joined M.told p i.tree b last (M.view e.seat) taken.is taken.owes taken.main taken.gives;
            lines = i.lines;
            next = i.next;
            amid = λ z. amid_kept (i.amid z) b taken.gives taken.scopes taken.room (ap (λ (x : Seen V). x.seat.opened) taken.is) (λ r l m. subst (λ xs. IsAmong r xs) (sym (ap (λ (x : Seen V). x.seat.empty) taken.is)) (among_left (M.view e.seat).empty m));
            begun = i.begun;
            begun_is = i.begun_is;
            stands = stands_on M.told p i.stands b tale.memory ending.more (keeps M.told p a b (M.view e.seat) taken.is) taken.gives;
            streams = subst (λ x. KeepsStreams M c.hub x d2 b m.jobs L.items R i.parts (joining i.progress last) tale) (sym those.learns.board) streams_now;
            turns = turns_joined i.progress i.tale last tale ending.pulled ending.room i.turns;
            places = places_now;
            telling = record {
              is_tale = is_tale p heard k h heard_is open_end e.board.view set_for obeyed_so own_set (with_seat_in c.stops e.board) stops n those;
              fates_are = ending.fates ∙ i.telling.fates_are;
              outer_is = ending.outer ∙ i.telling.outer_is;
              report_is = learns p.take (stream_limit p) (after_end heard k h) report (reported p.take (stream_limit p) heard (report_heeds p.take (stream_limit p) i.tale c.report i.telling.report_is os') open_end) (e.board.view.set ++ those.set) (e.board.view.seen ++ those.seen);
              known = known;
              seated = seated;
              seats = let z = i.telling.seats in let o = those.learns.out in omega (arith, z, o);
              contexts = ap (λ (x : BoardSeen). x.contexts) those.learns.board ∙ i.telling.contexts;
              wrote = wrote_same s0 m.sink i.tale tale ending.cut ending.frames i.telling.wrote;
            };
            room = record {
              waiting = i.room.waiting;
              jobs_room = i.room.jobs_room;
              queue = i.room.queue;
              few = let f = i.room.few in omega (arith, f);
              left = let f = i.room.left in let l = ap (λ xs. length xs) L_is ∙ length-append c.left.items (record { shelf = e.shelf; unopened = e.unopened } ∷ []) in let z = L_room in omega (arith, f, l, z);
            };
          }
