-- The streams of a collector while the outer stream is at work, and as streams are dealt with.
use Rattle.std.proofs.Common.{◌≡◌, ◌≢◌, ◌⊎◌, ◌↔◌, ℕ, suc, Bool, true, false, nat_eq, List, [], ◌∷◌, ◌++◌, map, length, Option, Some, inl, inr, refl, sym, ◌∙◌, ap, subst, ⊎_elim, arith}
use Rattle.std.specs.List.{IsDistinct}
use Rattle.chunk_core.specs.Lists.{IsAmong, has}
use Rattle.chunk_core.specs.Lists.IsAmong.{here, there}
use Rattle.chunk_core.specs.declared.code.Exit.{Exit}
use Rattle.chunk_core.specs.declared.code.How.{How}
use Rattle.chunk_core.proofs.Bools.{has_in, in_has}
use Rattle.chunk_core.proofs.Distinct.{distinct_append, distinct_one}
use Rattle.chunk_core.proofs.Members.{among_cons, among_last, among_left, among_nil, among_snoc}
use Rattle.channel_bounded.specs.Ends.{HubSeen, ReceiverSeen}
use Rattle.channel_bounded.specs.Streams.{of_stream}
use Rattle.interrupt_ctx.specs.Ends.{BoardSeen}
use Rattle.interrupt_ctx.specs.declared.view.Interruption.{Interruption}
use Rattle.interrupt_ctx.specs.declared.why.Stop.{Stop}
use Rattle.join_tale.specs.Steps.{fated, heeded}
use Rattle.join_tale.specs.Tales as tales
use Rattle.join_tale.specs.Tales.{Came, Fate, HasCome, IsOpen, Tale}
use Rattle.join_tale.proofs.Places.{at_below, at_left, at_snoc}
use Rattle.join_tree.specs.Guests.{AreOut}
use Rattle.join_tree.specs.Progress.{Progress}
use Rattle.join_tree.specs.Steps.{KeepsRows}
use Rattle.outer_stream.specs.Steps.{KeepsOthers}
use Rattle.outer_stream.proofs.Keeping.{outs_others}
use Rattle.res_ledger.specs.declared.event.StreamNo.{StreamNo}
use Rattle.res_ledger.specs.declared.event.StreamNo.TheVariants.{Outer}
use Rattle.res_ledger.specs.declared.event.What.{What}
use Rattle.row_seat.specs.Views.{OthersFit}
use Rattle.run_rules.specs.Facts.{at}
use Rattle.scope_tree.specs.Calls.{Seen}
use Rattle.stream_jobs.specs.declared.job.Job.{Job}
use Rattle.stream_jobs.specs.Jobs.{FitsJob, IsAt, IsJob, seen_job}
use Rattle.stream_jobs.specs.Running.{Origin}
use Rattle.stream_jobs.proofs.Others.{others_leave}
use Rattle.tree_families.specs.Families.{Split}
use Rattle.dealt_streams.specs.declared.leftover.Leftover.{Leftover}
use Rattle.dealt_streams.specs.Kept.{AreKept, Gone, IsKept, number_of}
use Rattle.collector.specs.Members.{Members}
use Rattle.collector.specs.Streams.{AreJobs, IsJobOf, KeepsStreams, guest_of}
use Rattle.dealt_streams.specs.Kept.Gone.{Came as Back, Missed}
use Rattle.dealt_streams.specs.Parts.{Part}
use Rattle.dealt_streams.specs.Parts.Part.{Unmade}
use Rattle.collector.proofs.Lists.{at_last, map_snoc}

-- the tale with other causes and ends
abbrev pub retold : Tale → Option How → List Interruption → List Interruption → Bool → Bool → Tale
retold t outer set seen ceased memory = record t { outer = outer; set = set; seen = seen; ceased = ceased; memory = memory }

-- the main tree with other leases and another root
abbrev pub moved : {P : Type 0} → Progress P → List (ℕ × List ℕ) → ℕ → ℕ → List What → Option Exit → Progress P
moved q waits next leased tables root = record q { waits = waits; next = next; leased = leased; tables = tables; root = root }

module _ {S V F D T : Type 0} (M : Members S V F D T) where
  -- the jobs are those of these origins still, where the desk, the board's name and further parts leave them so
  pub jobs_kept : (hub : HubSeen) (board again : BoardSeen) (d e : D) (parts more : List (Part V F)) → again ≡ board → ((k : ℕ) (x : Part V F) → at parts k ≡ Some x → at more k ≡ Some x) → (js : List (Job S V F V D T)) (ws : List (Origin V F))
      → ((w : Origin V F) → IsAmong w ws → (j : Job S V F V D T) → IsJob M.view M.values M.told M.stands w j → FitsJob M.view M.told M.fits j d → FitsJob M.view M.told M.fits j e) → AreJobs M hub board d parts js ws → AreJobs M hub again e more js ws
  jobs_kept hub board again d e parts more same grow [] [] stays h = tt
  jobs_kept hub board again d e parts more same grow [] (w ∷ ws) stays h = h
  jobs_kept hub board again d e parts more same grow (j ∷ js) [] stays h = h
  jobs_kept hub board again d e parts more same grow (j ∷ js) (w ∷ ws) stays h = (
    record {
      node = h.0.node;
      devices = h.0.devices;
      begun = grow w.stream _ h.0.begun;
      job = h.0.job;
      fits_desk = stays w (here ws) j h.0.job h.0.fits_desk;
      place = subst (λ (x : BoardSeen). IsAt (seen_job M.view M.values j) hub x) (sym same) h.0.place;
    },
    jobs_kept hub board again d e parts more same grow js ws (λ v m. stays v (there w m)) h.1,
  )

  pub jobs_snoc : (hub : HubSeen) (board : BoardSeen) (d : D) (parts : List (Part V F)) (js : List (Job S V F V D T)) (ws : List (Origin V F)) (j : Job S V F V D T) (w : Origin V F) → AreJobs M hub board d parts js ws → IsJobOf M hub board d parts j w
      → AreJobs M hub board d parts (js ++ j ∷ []) (ws ++ w ∷ [])
  jobs_snoc hub board d parts [] [] j w h i = (i, tt)
  jobs_snoc hub board d parts [] (v ∷ ws) j w h i = absurd h
  jobs_snoc hub board d parts (y ∷ js) [] j w h i = absurd h
  jobs_snoc hub board d parts (y ∷ js) (v ∷ ws) j w h i = (h.0, jobs_snoc hub board d parts js ws j w h.1 i)

  pub jobs_count : (hub : HubSeen) (board : BoardSeen) (d : D) (parts : List (Part V F)) (js : List (Job S V F V D T)) (ws : List (Origin V F)) → AreJobs M hub board d parts js ws → length js ≡ length ws
  jobs_count hub board d parts [] [] h = refl
  jobs_count hub board d parts [] (w ∷ ws) h = absurd h
  jobs_count hub board d parts (j ∷ js) [] h = absurd h
  jobs_count hub board d parts (j ∷ js) (w ∷ ws) h = ap suc (jobs_count hub board d parts js ws h.1)

  -- what was left is kept
  pub kept_stays : (parts more : List (Part V F)) (q u : Progress V) (r s : ReceiverSeen) (t v : Tale) → ((k : ℕ) (x : Part V F) → at parts k ≡ Some x → at more k ≡ Some x) → u.back ≡ q.back → s.got ≡ r.got → s.closed ≡ r.closed → ((k : ℕ) (h : How) → Came t k h → Came v k h)
      → (xs : List (Leftover V)) (gs : List (Gone S V F)) → AreKept M.view M.told M.stands parts q r t xs gs → AreKept M.view M.told M.stands more u s v xs gs
  kept_stays parts more q u r s t v grow back got closed came [] [] h = tt
  kept_stays parts more q u r s t v grow back got closed came [] (g ∷ gs) h = h
  kept_stays parts more q u r s t v grow back got closed came (x ∷ xs) [] h = h
  kept_stays parts more q u r s t v grow back got closed came (x ∷ xs) (Missed k ds ∷ gs) h = ((grow k (Unmade ds) h.0.0, h.0.1, h.0.2), kept_stays parts more q u r s t v grow back got closed came xs gs h.1)
  kept_stays parts more q u r s t v grow back got closed came (x ∷ xs) (Back n ds w e ∷ gs) h =
      let k = h.0 in (
        record {
          begun = grow w.stream _ k.begun;
          ends = k.ends;
          came = came w.stream e.how k.came;
          got = ap (of_stream w.stream) got ∙ k.got;
          closed = subst (λ l. IsAmong (w.stream, e.sender.sent) l) (sym closed) k.closed;
          back = k.back;
          taken_in = subst (λ l. IsAmong k.back l) (sym back) k.taken_in;
          seat_is = k.seat_is;
          shelf_is = k.shelf_is;
          unopened_is = k.unopened_is;
        },
        kept_stays parts more q u r s t v grow back got closed came xs gs h.1,
      )

  pub kept_snoc : (parts : List (Part V F)) (q : Progress V) (r : ReceiverSeen) (t : Tale) (xs : List (Leftover V)) (gs : List (Gone S V F)) (x : Leftover V) (g : Gone S V F) → AreKept M.view M.told M.stands parts q r t xs gs → IsKept M.view M.told M.stands parts q r t x g
      → AreKept M.view M.told M.stands parts q r t (xs ++ x ∷ []) (gs ++ g ∷ [])
  kept_snoc parts q r t [] [] x g h i = (i, tt)
  kept_snoc parts q r t [] (y ∷ gs) x g h i = absurd h
  kept_snoc parts q r t (y ∷ xs) [] x g h i = absurd h
  kept_snoc parts q r t (y ∷ xs) (z ∷ gs) x g h i = (h.0, kept_snoc parts q r t xs gs x g h.1 i)

  module _ (hub : HubSeen) (board : BoardSeen) (d : D) (b : Seen V) (js : List (Job S V F V D T)) (left : List (Leftover V)) (r : ReceiverSeen) (parts : List (Part V F)) (q : Progress V) (t : Tale) (ks : KeepsStreams M hub board d b js left r parts q t) where
    pub jobs_number : length js ≡ length ks.origins
    jobs_number = jobs_count hub board d parts js ks.origins ks.jobs_are

    -- the next stream had no sender before
    pub is_fresh : length parts ≡ length t.fates → ¬ (IsAmong (length parts) r.made)
    is_fresh count i = let l = at_below t.fates (length parts) tales.Fate.Begun ((ks.made (length parts)).0 i) in absurd (omega (arith, l, count))

    -- where none is open each that was begun has come
    pub all_came : length js ≡ 0 → (k : ℕ) → at t.fates k ≡ Some tales.Fate.Begun → HasCome t k
    all_came none k i = (elim (has k (map number_of ks.gone)) as (λ b. has k (map number_of ks.gone) ≡ b → HasCome t k) [
      | true ↦ λ e. ⊎_elim (λ h. h) (λ z. let w : Some tales.Fate.Begun ≡ Some tales.Fate.Unmade = sym i ∙ z in cc) ((ks.numbers k).0 (has_in k (map number_of ks.gone) e))
      | false ↦ λ e.
          let m = (ks.opens k).1 (i, λ h. let y = in_has k (map number_of ks.gone) ((ks.numbers k).1 (inl h)) in let w : true ≡ false = sym y ∙ e in cc) in
          absurd (among_nil (subst (λ l. IsAmong k (map (λ (v : Origin V F). v.stream) l)) (no_origins ks.origins (let n = jobs_number in omega (arith, n, none))) m))
    ]) refl
      where
        no_origins : (ws : List (Origin V F)) → length ws ≡ 0 → ws ≡ []
        no_origins [] e = refl
        no_origins (w ∷ ws) e = absurd (omega (arith, e))

    -- whose turn it was changes nothing of them
    pub streams_retold : (out : List ℕ) (ahead : List (ℕ × List ℕ)) (last pulled : List ℕ) (room : ℕ → List ℕ) → KeepsStreams M hub board d b js left r parts (record q { out = out; ahead = ahead; last = last }) (record t { pulled = pulled; room = room })
    streams_retold out ahead last pulled room = record {
      origins = ks.origins;
      jobs_are = ks.jobs_are;
      out = ks.out;
      opens = ks.opens;
      begun = ks.begun;
      gone = ks.gone;
      kept = kept_stays parts parts q (record q { out = out; ahead = ahead; last = last }) r r t (record t { pulled = pulled; room = room }) (λ k x i. i) refl refl refl (λ k h i. i) left ks.gone ks.kept;
      apart = ks.apart;
      numbers = ks.numbers;
      given = ks.given;
      home = ks.home;
      hub_is = ks.hub_is;
      got = ks.got;
      made = ks.made;
      closed = ks.closed;
    }

    -- who was halted changes nothing of them
    pub streams_heeded : (os : List (StreamNo × Stop)) → KeepsStreams M hub board d b js left r parts q (heeded t os)
    streams_heeded os = record {
      origins = ks.origins;
      jobs_are = ks.jobs_are;
      out = ks.out;
      opens = ks.opens;
      begun = ks.begun;
      gone = ks.gone;
      kept = kept_stays parts parts q q r r t (heeded t os) (λ k x i. i) refl refl refl (λ k h i. i) left ks.gone ks.kept;
      apart = ks.apart;
      numbers = ks.numbers;
      given = ks.given;
      home = ks.home;
      hub_is = ks.hub_is;
      got = ks.got;
      made = ks.made;
      closed = ks.closed;
    }

    -- a call in the outer stream's name leaves them
    module _ (again : BoardSeen) (e : D) (c : Seen V) (same : again ≡ board) (others : OthersFit M.view M.fits Outer d e) {u : ℕ} (guests : KeepsOthers u b c) where
      outer_stays : (w : Origin V F) → IsAmong w ks.origins → (j : Job S V F V D T) → IsJob M.view M.values M.told M.stands w j → FitsJob M.view M.told M.fits j d → FitsJob M.view M.told M.fits j e
      outer_stays w m j job f = (others_leave M.view M.values M.told M.stands M.fits).outer w j d e job f others

      -- where what was handed over stays so
      pub streams_handed : ((y : ℕ × V) → IsAmong y b.seat.given → IsAmong y c.seat.given) → (outer : Option How) (set seen : List Interruption) (ceased memory : Bool) (waits : List (ℕ × List ℕ)) (next leased : ℕ) (tables : List What) (root : Option Exit)
          → KeepsStreams M hub again e c js left r parts (moved q waits next leased tables root) (retold t outer set seen ceased memory)
      streams_handed handed outer set seen ceased memory waits next leased tables root = record {
        origins = ks.origins;
        jobs_are = jobs_kept hub board again d e parts parts same (λ k x i. i) js ks.origins outer_stays ks.jobs_are;
        out = outs_others u b c q.splits (map guest_of ks.origins) guests ks.out;
        opens = ks.opens;
        begun = ks.begun;
        gone = ks.gone;
        kept = kept_stays parts parts q (moved q waits next leased tables root) r r t (retold t outer set seen ceased memory) (λ k x i. i) refl refl refl (λ k h i. i) left ks.gone ks.kept;
        apart = ks.apart;
        numbers = ks.numbers;
        given = λ y m z i. handed z (ks.given y m z i);
        home = ks.home;
        hub_is = ks.hub_is;
        got = ks.got;
        made = ks.made;
        closed = ks.closed;
      }

    module _ (again : BoardSeen) (e : D) (c : Seen V) (same : again ≡ board) (others : OthersFit M.view M.fits Outer d e) {u : ℕ} (guests : KeepsOthers u b c) (rows : KeepsRows b.seat c.seat) where
      pub streams_stay : (outer : Option How) (set seen : List Interruption) (ceased memory : Bool) (waits : List (ℕ × List ℕ)) (next leased : ℕ) (tables : List What) (root : Option Exit)
          → KeepsStreams M hub again e c js left r parts (moved q waits next leased tables root) (retold t outer set seen ceased memory)
      streams_stay = streams_handed again e c same others guests rows.given

      -- a stream that was dealt with isn't begun
      module _ (x : Part V F) (f : Fate) (not : f ≢ tales.Fate.Begun) where
        grow : (k : ℕ) (y : Part V F) → at parts k ≡ Some y → at (parts ++ x ∷ []) k ≡ Some y
        grow k y i = at_left parts (x ∷ []) k y i

        begun_less : (k : ℕ) → at (t.fates ++ f ∷ []) k ≡ Some tales.Fate.Begun → at t.fates k ≡ Some tales.Fate.Begun
        begun_less k i = ⊎_elim (λ o. o) (λ n. absurd (not (sym n.1))) (at_snoc t.fates f k tales.Fate.Begun i)

        opens_so : (k : ℕ) → IsAmong k (map (λ (v : Origin V F). v.stream) ks.origins) ↔ IsOpen (fated t f) k
        opens_so k = (λ m. let o = (ks.opens k).0 m in (at_left t.fates (f ∷ []) k tales.Fate.Begun o.0, o.1), λ o. (ks.opens k).1 (begun_less k o.0, o.1))

        pub streams_skipped : f ≢ tales.Fate.Unmade → (outer : Option How) (set seen : List Interruption) (ceased memory : Bool) (waits : List (ℕ × List ℕ)) (next leased : ℕ) (tables : List What) (root : Option Exit)
            → KeepsStreams M hub again e c js left r (parts ++ x ∷ []) (moved q waits next leased tables root) (retold (fated t f) outer set seen ceased memory)
        streams_skipped made outer set seen ceased memory waits next leased tables root = record {
          origins = ks.origins;
          jobs_are = jobs_kept hub board again d e parts (parts ++ x ∷ []) same grow js ks.origins (outer_stays again e c same others guests) ks.jobs_are;
          out = outs_others u b c q.splits (map guest_of ks.origins) guests ks.out;
          opens = opens_so;
          begun = λ k. (λ i. (ks.begun k).0 (begun_less k i), λ m. at_left t.fates (f ∷ []) k tales.Fate.Begun ((ks.begun k).1 m));
          gone = ks.gone;
          kept = kept_stays parts (parts ++ x ∷ []) q (moved q waits next leased tables root) r r t (retold (fated t f) outer set seen ceased memory) grow refl refl refl (λ k h i. i) left ks.gone ks.kept;
          apart = ks.apart;
          numbers = λ k. (
            λ m. ⊎_elim (λ i. inl i) (λ i. inr (at_left t.fates (f ∷ []) k tales.Fate.Unmade i)) ((ks.numbers k).0 m),
            λ o. (ks.numbers k).1 (⊎_elim (λ i. inl i) (λ i. inr (⊎_elim (λ y. y) (λ n. absurd (made (sym n.1))) (at_snoc t.fates f k tales.Fate.Unmade i))) o),
          );
          given = λ y m z i. rows.given z (ks.given y m z i);
          home = ks.home;
          hub_is = ks.hub_is;
          got = ks.got;
          made = λ k. (λ m. at_left t.fates (f ∷ []) k tales.Fate.Begun ((ks.made k).0 m), λ i. (ks.made k).1 (begun_less k i));
          closed = ks.closed;
        }

        -- there was no memory to make it, and what was made for it is kept
        pub streams_missed : f ≡ tales.Fate.Unmade → (ds : List V) (y : Leftover V) → x ≡ Unmade ds → y.shelf ≡ [] → y.unopened ≡ ds → length parts ≡ length t.fates → ((k : ℕ) → HasCome t k → at t.fates k ≡ Some tales.Fate.Begun) → (outer : Option How) (set seen : List Interruption) (ceased memory : Bool) (waits : List (ℕ × List ℕ)) (next leased : ℕ) (tables : List What) (root : Option Exit)
            → KeepsStreams M hub again e c js (left ++ y ∷ []) r (parts ++ x ∷ []) (moved q waits next leased tables root) (retold (fated t f) outer set seen ceased memory)
        streams_missed is ds y x_is shelf unopened count ours outer set seen ceased memory waits next leased tables root = record {
          origins = ks.origins;
          jobs_are = jobs_kept hub board again d e parts (parts ++ x ∷ []) same grow js ks.origins (outer_stays again e c same others guests) ks.jobs_are;
          out = outs_others u b c q.splits (map guest_of ks.origins) guests ks.out;
          opens = opens_so;
          begun = λ k. (λ i. (ks.begun k).0 (begun_less k i), λ m. at_left t.fates (f ∷ []) k tales.Fate.Begun ((ks.begun k).1 m));
          gone = ks.gone ++ Missed (length parts) ds ∷ [];
          kept = kept_snoc (parts ++ x ∷ []) (moved q waits next leased tables root) r (retold (fated t f) outer set seen ceased memory) left ks.gone y (Missed (length parts) ds)
              (kept_stays parts (parts ++ x ∷ []) q (moved q waits next leased tables root) r r t (retold (fated t f) outer set seen ceased memory) grow refl refl refl (λ k h i. i) left ks.gone ks.kept)
              (at_last parts x ∙ ap Some x_is, shelf, unopened);
          apart = subst (IsDistinct nat_eq) (sym (map_snoc number_of ks.gone (Missed (length parts) ds))) (distinct_append (map number_of ks.gone) (length parts ∷ []) ks.apart (distinct_one (length parts)) (λ k m n. ⊎_elim (λ z. fresh (subst (λ i. IsAmong i (map number_of ks.gone)) z m)) (λ z. among_nil z) (among_cons n)));
          numbers = λ k. (
            λ m. ⊎_elim
                (λ i. ⊎_elim (λ o. inl o) (λ o. inr (at_left t.fates (f ∷ []) k tales.Fate.Unmade o)) ((ks.numbers k).0 i))
                (λ z. inr (subst (λ i. at (t.fates ++ f ∷ []) i ≡ Some tales.Fate.Unmade) (sym (z ∙ count)) (at_last t.fates f ∙ ap Some is)))
                (among_snoc (map number_of ks.gone) k (length parts) (subst (λ l. IsAmong k l) (map_snoc number_of ks.gone (Missed (length parts) ds)) m)),
            λ o. subst (λ l. IsAmong k l) (sym (map_snoc number_of ks.gone (Missed (length parts) ds))) (⊎_elim
                (λ i. among_left (length parts ∷ []) ((ks.numbers k).1 (inl i)))
                (λ i. ⊎_elim (λ z. among_left (length parts ∷ []) ((ks.numbers k).1 (inr z))) (λ n. subst (λ z. IsAmong z (map number_of ks.gone ++ length parts ∷ [])) (count ∙ sym n.0) (among_last (map number_of ks.gone) (length parts))) (at_snoc t.fates f k tales.Fate.Unmade i))
                o),
          );
          given = λ g m z i. rows.given z (ks.given g m z i);
          home = λ z m. let h = ks.home z m in (h.0, h.1, h.2, h.3, among_left (Missed (length parts) ds ∷ []) h.4, h.5);
          hub_is = ks.hub_is;
          got = ks.got;
          made = λ k. (λ m. at_left t.fates (f ∷ []) k tales.Fate.Begun ((ks.made k).0 m), λ i. (ks.made k).1 (begun_less k i));
          closed = ks.closed;
        }
          where
            nothing_there : (g : Fate) → at t.fates (length parts) ≡ Some g → ⊥
            nothing_there g i = let l = at_below t.fates (length parts) g i in absurd (omega (arith, l, count))

            fresh : IsAmong (length parts) (map number_of ks.gone) → ⊥
            fresh m = ⊎_elim (λ h. nothing_there tales.Fate.Begun (ours (length parts) h)) (λ i. nothing_there tales.Fate.Unmade i) ((ks.numbers (length parts)).0 m)

    -- the next stream began
    module _ (e : D) (c : Seen V) (w : Origin V F) (x : Part V F) (j : Job S V F V D T) (m : Split) (is : w.stream ≡ length parts) (count : length parts ≡ length t.fates) (ours : (k : ℕ) → HasCome t k → at t.fates k ≡ Some tales.Fate.Begun) (split : m.stream ≡ length parts)
        (stays : (v : Origin V F) → IsAmong v ks.origins → (y : Job S V F V D T) → IsJob M.view M.values M.told M.stands v y → FitsJob M.view M.told M.fits y d → FitsJob M.view M.told M.fits y e) (job : IsJobOf M hub board e (parts ++ x ∷ []) j w) (out : AreOut c (q.splits ++ m ∷ []) (map guest_of ks.origins ++ guest_of w ∷ [])) (given : (z : ℕ × V) → IsAmong z b.seat.given → IsAmong z c.seat.given) where
      abbrev fates : List Fate
      fates = t.fates ++ tales.Fate.Begun ∷ []

      nothing_there : (g : Fate) → at t.fates (length parts) ≡ Some g → ⊥
      nothing_there g i = let l = at_below t.fates (length parts) g i in absurd (omega (arith, l, count))

      here_begun : (k : ℕ) → k ≡ length parts → at fates k ≡ Some tales.Fate.Begun
      here_begun k z = subst (λ i. at fates i ≡ Some tales.Fate.Begun) (sym (z ∙ count)) (at_last t.fates tales.Fate.Begun)

      began : (k : ℕ) → at fates k ≡ Some tales.Fate.Begun → (at t.fates k ≡ Some tales.Fate.Begun) ⊎ (k ≡ length parts)
      began k i = ⊎_elim (λ o. inl o) (λ n. inr (n.0 ∙ sym count)) (at_snoc t.fates tales.Fate.Begun k tales.Fate.Begun i)

      pub streams_begun : (waits : List (ℕ × List ℕ)) (next : ℕ) → KeepsStreams M hub board e c (js ++ j ∷ []) left (record r { made = r.made ++ length parts ∷ [] }) (parts ++ x ∷ []) (record q { splits = q.splits ++ m ∷ []; waits = waits; next = next; out = m.stream ∷ q.out }) (fated t tales.Fate.Begun)
      streams_begun waits next = record {
        origins = ks.origins ++ w ∷ [];
        jobs_are = jobs_snoc hub board e (parts ++ x ∷ []) js ks.origins j w (jobs_kept hub board board d e parts (parts ++ x ∷ []) refl (λ k y i. at_left parts (x ∷ []) k y i) js ks.origins stays ks.jobs_are) job;
        out = subst (λ gs. AreOut c (q.splits ++ m ∷ []) gs) (sym (map_snoc guest_of ks.origins w)) out;
        opens = λ k. (
          λ i. ⊎_elim
              (λ o. let p = (ks.opens k).0 o in (at_left t.fates (tales.Fate.Begun ∷ []) k tales.Fate.Begun p.0, p.1))
              (λ z. let s = z ∙ is in (here_begun k s, λ h. nothing_there tales.Fate.Begun (subst (λ n. at t.fates n ≡ Some tales.Fate.Begun) s (ours k h))))
              (among_snoc (map (λ (v : Origin V F). v.stream) ks.origins) k w.stream (subst (λ l. IsAmong k l) (map_snoc (λ (v : Origin V F). v.stream) ks.origins w) i)),
          λ o. subst (λ l. IsAmong k l) (sym (map_snoc (λ (v : Origin V F). v.stream) ks.origins w))
              (⊎_elim (λ p. among_left (w.stream ∷ []) ((ks.opens k).1 (p, o.1))) (λ z. subst (λ n. IsAmong n (map (λ (v : Origin V F). v.stream) ks.origins ++ w.stream ∷ [])) (is ∙ sym z) (among_last (map (λ (v : Origin V F). v.stream) ks.origins) w.stream)) (began k o.0)),
        );
        begun = λ k. (
          λ i. ⊎_elim (λ o. let p = (ks.begun k).0 o in (p.0, among_left (m ∷ []) p.1, p.2)) (λ z. (m, among_last q.splits m, split ∙ sym z)) (began k i),
          λ p. ⊎_elim (λ o. at_left t.fates (tales.Fate.Begun ∷ []) k tales.Fate.Begun ((ks.begun k).1 (p.0, o, p.2))) (λ z. here_begun k (sym p.2 ∙ (ap (λ (y : Split). y.stream) z ∙ split))) (among_snoc q.splits p.0 m p.1),
        );
        gone = ks.gone;
        kept = kept_stays parts (parts ++ x ∷ []) q (record q { splits = q.splits ++ m ∷ []; waits = waits; next = next; out = m.stream ∷ q.out }) r (record r { made = r.made ++ length parts ∷ [] }) t (fated t tales.Fate.Begun) (λ k y i. at_left parts (x ∷ []) k y i) refl refl refl (λ k h i. i) left ks.gone ks.kept;
        apart = ks.apart;
        numbers = λ k. (
          λ i. ⊎_elim (λ o. inl o) (λ o. inr (at_left t.fates (tales.Fate.Begun ∷ []) k tales.Fate.Unmade o)) ((ks.numbers k).0 i),
          λ o. (ks.numbers k).1 (⊎_elim (λ i. inl i) (λ i. inr (⊎_elim (λ y. y) (λ n. let z : tales.Fate.Unmade ≡ tales.Fate.Begun = n.1 in cc) (at_snoc t.fates tales.Fate.Begun k tales.Fate.Unmade i))) o),
        );
        given = λ y n z a. given z (ks.given y n z a);
        home = ks.home;
        hub_is = ks.hub_is;
        got = ks.got;
        made = λ k. (
          λ i. ⊎_elim (λ o. at_left t.fates (tales.Fate.Begun ∷ []) k tales.Fate.Begun ((ks.made k).0 o)) (λ z. here_begun k z) (among_snoc r.made k (length parts) i),
          λ i. ⊎_elim (λ o. among_left (length parts ∷ []) ((ks.made k).1 o)) (λ z. subst (λ n. IsAmong n (r.made ++ length parts ∷ [])) (sym z) (among_last r.made (length parts))) (began k i),
        );
        closed = ks.closed;
      }
