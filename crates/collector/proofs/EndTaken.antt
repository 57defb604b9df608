-- What was left of an ended stream is taken in, and the collector goes on.
use Rattle.std.proofs.Common.{◌≡◌, ◌⊎◌, ℕ, List, [], ◌∷◌, ◌++◌, map, Some, refl, sym, ◌∙◌, ap, subst, inl, inr, ⊎_elim, append_assoc, append-nil}
use Rattle.std.proofs.lemmas.List.{map-append}
use Rattle.std.specs.Prelude.{nat_eq}
use Rattle.std.specs.List.{IsDistinct}
use Rattle.chunk_core.specs.Lists.{IsAmong}
use Rattle.chunk_core.specs.Lists.IsAmong.{there}
use Rattle.chunk_core.specs.Tables.{Values}
use Rattle.chunk_core.specs.declared.code.How.{How}
use Rattle.chunk_core.proofs.Distinct.{distinct_append, distinct_head, distinct_one}
use Rattle.chunk_core.proofs.Members.{among_cons, among_last, among_left, among_nil, among_snoc}
use Rattle.channel_bounded.specs.Ends.{HubSeen, ReceiverSeen}
use Rattle.channel_bounded.specs.Streams.{IsWhole, of_stream}
use Rattle.channel_bounded.specs.declared.message.Msg.{Msg}
use Rattle.device_port.specs.Device.{DeviceTold}
use Rattle.interrupt_ctx.specs.Ends.{BoardSeen}
use Rattle.join_tale.specs.Tales as tales
use Rattle.join_tale.specs.Tales.{HasCome, IsBegun, IsOpen, Tale}
use Rattle.join_tree.specs.Guests.{AreOut, Guest}
use Rattle.join_tree.specs.Progress.{Progress, joining}
use Rattle.pull_nodes.specs.declared.node.Node.{Node}
use Rattle.pull_turns.specs.Piping.{StateMeaning}
use Rattle.row_seat.specs.declared.view.View.{View}
use Rattle.run_rules.specs.Facts.{at}
use Rattle.scope_tree.specs.Calls.{Seen}
use Rattle.stream_jobs.specs.declared.job.Job.{Job}
use Rattle.stream_jobs.specs.declared.job.JobEnd.{JobEnd}
use Rattle.stream_jobs.specs.Jobs.{EndsJob}
use Rattle.stream_jobs.specs.Messages.{end_message, load_messages}
use Rattle.stream_jobs.specs.Running.{Origin}
use Rattle.dealt_streams.specs.declared.leftover.Leftover.{Leftover}
use Rattle.dealt_streams.specs.Kept.{AreKept, Gone, IsKept, number_of}
use Rattle.collector.specs.Members.{Members}
use Rattle.collector.specs.Streams.{AreJobs, KeepsStreams, guest_of}
use Rattle.dealt_streams.specs.Kept.Gone.{Came, Missed}
use Rattle.dealt_streams.specs.Parts.{Part}
use Rattle.dealt_streams.specs.Parts.Part.{Begun}
use Rattle.collector.proofs.EndTold.{EndComes}
use Rattle.collector.proofs.LoadTaken.{got_map, grown}
use Rattle.collector.proofs.OneStream.{end_last, of_more, of_own, of_rest}

-- All that a stream sent was got, where its end was, which is the one that was sent.
pub record GotAll (k : ℕ) (h : How) (got : List Msg) {S V : Type 0} (e : JobEnd S V) : Type 0 where
  pub how_so : e.how ≡ h
  pub all : of_stream k (got ++ end_message k h ∷ []) ≡ e.sender.sent

module _ {S V F : Type 0} (view : S → View V) (told : V → DeviceTold) (P : Values → StateMeaning F) (w : Origin V F) (e : JobEnd S V) (ends : EndsJob view told P w e) (k : ℕ) (number : w.stream ≡ k) (h : How) (got queued : List Msg) (whole : IsWhole e.sender.stream e.sender.sent (got ++ end_message k h ∷ []) queued) where
  abbrev m : Msg
  m = end_message k h

  whole_here : of_stream k (got ++ m ∷ []) ++ of_stream k queued ≡ e.sender.sent
  whole_here = subst (λ j. of_stream j (got ++ m ∷ []) ++ of_stream j queued ≡ e.sender.sent) (ends.sender ∙ number) whole

  here_is : of_stream k (got ++ m ∷ []) ≡ of_stream k got ++ m ∷ []
  here_is = of_more k got (m ∷ []) ∙ ap (λ l. of_stream k got ++ l) (of_own m k [] refl)

  in_place : of_stream k got ++ m ∷ of_stream k queued ≡ load_messages w.stream ends.left.texts ++ end_message w.stream e.how ∷ []
  in_place = sym (append_assoc (of_stream k got) (m ∷ []) (of_stream k queued)) ∙ (ap (λ l. l ++ of_stream k queued) (sym here_is) ∙ (whole_here ∙ ends.left.said_is))

  last_one : (h ≡ e.how) × (of_stream k queued ≡ []) × (of_stream k got ≡ load_messages w.stream ends.left.texts)
  last_one = end_last w.stream ends.left.texts e.how (of_stream k got) (of_stream k queued) k h in_place

  pub got_all : GotAll k h got e
  got_all = record {
    how_so = sym last_one.0;
    all = sym (append-nil (of_stream k (got ++ m ∷ []))) ∙ (ap (λ l. of_stream k (got ++ m ∷ []) ++ l) (sym last_one.1) ∙ whole_here);
  }

streams_of : {V F : Type 0} (os : List (Origin V F)) → map (λ (y : Guest). y.stream) (map guest_of os) ≡ map (λ (y : Origin V F). y.stream) os
streams_of [] = refl
streams_of (w ∷ os) = ap (λ l. w.stream ∷ l) (streams_of os)

module _ {S V F D T : Type 0} (M : Members S V F D T) (parts : List (Part V F)) (progress : Progress V) (had : ReceiverSeen) (t v : Tale) (k : ℕ) (h : How) (comes : EndComes t v k h) (o : IsOpen t k) (last : Seen V) (sent : List Msg) where
  abbrev came_so : Msg
  came_so = end_message k h

  -- the receiver behind it
  abbrev pub behind : ReceiverSeen
  behind = record (grown had came_so) { closed = had.closed ++ (k, sent) ∷ [] }

  begun_on : (j : ℕ) → IsBegun t j → IsBegun v j
  begun_on j b = subst (λ fs. at fs j ≡ Some tales.Fate.Begun) (sym comes.fates) b

  begun_back : (j : ℕ) → IsBegun v j → IsBegun t j
  begun_back j b = subst (λ fs. at fs j ≡ Some tales.Fate.Begun) comes.fates b

  come_on : (j : ℕ) → HasCome t j → HasCome v j
  come_on j c = (c.0, comes.kept j c.0 c.1)

  come_back : (j : ℕ) → HasCome v j → HasCome t j ⊎ (j ≡ k)
  come_back j c = ⊎_elim (λ a. inl (c.0, a)) (λ e. inr e.0) (comes.back j c.0 c.1)

  old_stays : (x : Leftover V) (g : Gone S V F) → IsKept M.view M.told M.stands parts progress had t x g → IsKept M.view M.told M.stands parts (joining progress last) behind v x g
  old_stays x (Came n ds w e) c = record {
    begun = c.begun;
    ends = c.ends;
    came = comes.kept w.stream e.how c.came;
    got = of_rest had.got came_so w.stream (λ q. o.1 (subst (λ j. HasCome t j) (sym q) (e.how, c.came))) ∙ c.got;
    closed = among_left ((k, sent) ∷ []) c.closed;
    back = c.back;
    taken_in = among_left (last ∷ []) c.taken_in;
    seat_is = c.seat_is;
    shelf_is = c.shelf_is;
    unopened_is = c.unopened_is;
  }
  old_stays x (Missed j ds) c = c

  -- and the new one behind them
  kept_more : (y : Leftover V) (n : Gone S V F) → IsKept M.view M.told M.stands parts (joining progress last) behind v y n → (xs : List (Leftover V)) (gs : List (Gone S V F)) → AreKept M.view M.told M.stands parts progress had t xs gs → AreKept M.view M.told M.stands parts (joining progress last) behind v (xs ++ y ∷ []) (gs ++ n ∷ [])
  kept_more y n new [] [] c = (new, tt)
  kept_more y n new [] (g ∷ gs) c = absurd c
  kept_more y n new (x ∷ xs) [] c = absurd c
  kept_more y n new (x ∷ xs) (g ∷ gs) c = (old_stays x g c.0, kept_more y n new xs gs c.1)

  unmade_on : (j : ℕ) → at t.fates j ≡ Some tales.Fate.Unmade → at v.fates j ≡ Some tales.Fate.Unmade
  unmade_on j u = subst (λ fs. at fs j ≡ Some tales.Fate.Unmade) (sym comes.fates) u

  unmade_back : (j : ℕ) → at v.fates j ≡ Some tales.Fate.Unmade → at t.fates j ≡ Some tales.Fate.Unmade
  unmade_back j u = subst (λ fs. at fs j ≡ Some tales.Fate.Unmade) comes.fates u

  unmade_not : at t.fates k ≡ Some tales.Fate.Unmade → ⊥
  unmade_not u = let q : Some tales.Fate.Begun ≡ Some tales.Fate.Unmade = sym o.0 ∙ u in cc

  module _ (hub : HubSeen) (board : BoardSeen) (d d' : D) (b b' : Seen V) (job : Job S V F V D T) (js : List (Job S V F V D T)) (left : List (Leftover V)) (s : KeepsStreams M hub board d b (job ∷ js) left had parts progress t) (w : Origin V F) (os : List (Origin V F)) (first : s.origins ≡ w ∷ os) (number : w.stream ≡ k) (stay : AreJobs M hub board d' parts js os) (out : AreOut b' progress.splits (map guest_of os)) (handed : (z : ℕ × V) → IsAmong z b.seat.given ⊎ IsAmong z last.seat.given → IsAmong z b'.seat.given) (n : Node) (ds : List V) (e : JobEnd S V) (begun : at parts w.stream ≡ Some (Begun n ds w)) (ends : EndsJob M.view M.told M.stands w e) (all : GotAll k h had.got e) (sent_is : sent ≡ e.sender.sent) (last_is : M.view e.seat ≡ last.seat) where
    abbrev x : Leftover V
    x = record { shelf = e.shelf; unopened = e.unopened }

    abbrev g : Gone S V F
    g = Came n ds w e

    apart_here : IsDistinct nat_eq (map (λ (y : Origin V F). y.stream) (w ∷ os))
    apart_here = subst (λ l. IsDistinct nat_eq l) (streams_of (w ∷ os)) (subst (λ l. IsDistinct nat_eq (map (λ (y : Guest). y.stream) (map guest_of l))) first s.out.apart)

    -- which streams are open then
    opens_back : (j : ℕ) → IsAmong j (map (λ (y : Origin V F). y.stream) os) → IsOpen v j
    opens_back j a =
        let q = (s.opens j).0 (subst (λ l. IsAmong j (map (λ (y : Origin V F). y.stream) l)) (sym first) (there w.stream a)) in
        (begun_on j q.0, λ c. ⊎_elim (λ y. q.1 y) (λ y. distinct_head w.stream (map (λ (z : Origin V F). z.stream) os) apart_here (subst (λ i. IsAmong i (map (λ (z : Origin V F). z.stream) os)) (y ∙ sym number) a)) (come_back j c))

    opens_on : (j : ℕ) → IsOpen v j → IsAmong j (map (λ (y : Origin V F). y.stream) os)
    opens_on j q =
        let a = subst (λ l. IsAmong j (map (λ (y : Origin V F). y.stream) l)) first ((s.opens j).1 (begun_back j q.0, λ c. q.1 (come_on j c))) in
        ⊎_elim (λ y. absurd (q.1 (subst (λ i. HasCome v i) (sym (y ∙ number)) (h, comes.came)))) (λ y. y) (among_cons a)

    new_kept : IsKept M.view M.told M.stands parts (joining progress last) behind v x g
    new_kept = record {
      begun = begun;
      ends = ends;
      came = subst (λ j. tales.Came v j e.how) (sym number) (subst (λ y. tales.Came v k y) (sym all.how_so) comes.came);
      got = subst (λ j. of_stream j (had.got ++ came_so ∷ []) ≡ e.sender.sent) (sym number) all.all;
      closed = subst (λ j. IsAmong (j, e.sender.sent) (had.closed ++ (k, sent) ∷ [])) (sym number) (subst (λ l. IsAmong (k, l) (had.closed ++ (k, sent) ∷ [])) sent_is (among_last had.closed (k, sent)));
      back = last;
      taken_in = among_last progress.back last;
      seat_is = last_is;
      shelf_is = refl;
      unopened_is = refl;
    }

    not_gone : IsAmong k (map number_of s.gone) → ⊥
    not_gone a = ⊎_elim (λ c. o.1 c) (λ u. unmade_not u) ((s.numbers k).0 a)

    numbers_is : map number_of (s.gone ++ g ∷ []) ≡ map number_of s.gone ++ w.stream ∷ []
    numbers_is = map-append number_of s.gone (g ∷ [])

    numbers_on : (j : ℕ) → IsAmong j (map number_of (s.gone ++ g ∷ [])) → HasCome v j ⊎ (at v.fates j ≡ Some tales.Fate.Unmade)
    numbers_on j a = ⊎_elim (λ y. ⊎_elim (λ c. inl (come_on j c)) (λ u. inr (unmade_on j u)) ((s.numbers j).0 y)) (λ y. inl (subst (λ i. HasCome v i) (sym (y ∙ number)) (h, comes.came))) (among_snoc (map number_of s.gone) j w.stream (subst (λ l. IsAmong j l) numbers_is a))

    numbers_back : (j : ℕ) → HasCome v j ⊎ (at v.fates j ≡ Some tales.Fate.Unmade) → IsAmong j (map number_of (s.gone ++ g ∷ []))
    numbers_back j q = subst (λ l. IsAmong j l) (sym numbers_is) (⊎_elim (λ c. ⊎_elim (λ y. among_left (w.stream ∷ []) ((s.numbers j).1 (inl y))) (λ y. subst (λ i. IsAmong i (map number_of s.gone ++ w.stream ∷ [])) (number ∙ sym y) (among_last (map number_of s.gone) w.stream)) (come_back j c)) (λ u. among_left (w.stream ∷ []) ((s.numbers j).1 (inr (unmade_back j u)))) q)

    pub streams_end : KeepsStreams M hub board d' b' js (left ++ x ∷ []) behind parts (joining progress last) v
    streams_end = record {
      origins = os;
      jobs_are = stay;
      out = out;
      opens = λ j. (λ a. opens_back j a, λ q. opens_on j q);
      begun = λ j. (λ q. (s.begun j).0 (begun_back j q), λ q. begun_on j ((s.begun j).1 q));
      gone = s.gone ++ g ∷ [];
      kept = kept_more x g new_kept left s.gone s.kept;
      apart = subst (λ l. IsDistinct nat_eq l) (sym numbers_is) (distinct_append (map number_of s.gone) (w.stream ∷ []) s.apart (distinct_one w.stream) (λ j a c. not_gone (subst (λ i. IsAmong i (map number_of s.gone)) (⊎_elim (λ y. y ∙ number) (λ z. absurd (among_nil z)) (among_cons c)) a)));
      numbers = λ j. (λ a. numbers_on j a, λ q. numbers_back j q);
      given = λ y a z m. ⊎_elim (λ q. handed z (inl (s.given y q z m))) (λ q. handed z (inr (subst (λ (u : Seen V). IsAmong z u.seat.given) q m))) (among_snoc progress.back y last a);
      home = λ y a. ⊎_elim (λ z. let r = s.home y z in (r.0, r.1, r.2, r.3, among_left (g ∷ []) r.4, r.5)) (λ z. (n, ds, w, e, among_last s.gone g, ap (λ (i : Seen V). i.seat) z ∙ sym last_is)) (among_snoc progress.back y last a);
      hub_is = s.hub_is;
      got = got_map had.got came_so (t.front ++ t.late) s.got ∙ sym comes.got;
      made = λ j. (λ a. begun_on j ((s.made j).0 a), λ q. (s.made j).1 (begun_back j q));
      closed = λ j y a. ⊎_elim (λ z. come_on j (s.closed j y z)) (λ z. subst (λ i. HasCome v i) (sym (ap (λ (q : ℕ × List Msg). q.0) z)) (h, comes.came)) (among_snoc had.closed (j, y) (k, sent) a);
    }
