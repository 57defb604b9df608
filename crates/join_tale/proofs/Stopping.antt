-- What else follows of a record.
use Rattle.std.proofs.Common.{◌≡◌, ◌⊎◌, ℕ, ◌<◌, ◌≤◌, true, List, [], ◌∷◌, length, Option, Some, None, IfSome, inl, inr, refl, sym, ap, ◌∙◌, subst, ⊎_elim, arith}
use Rattle.std.specs.Prelude.{option_map}
use Rattle.std.specs.List.{last_or, AllByRecursion}
use Rattle.chunk_core.specs.Lists.{IsAmong}
use Rattle.chunk_core.specs.Lists.IsAmong.{here}
use Rattle.chunk_core.specs.Texts.{Frame}
use Rattle.chunk_core.proofs.Each.{each_among}
use Rattle.chunk_core.specs.declared.code.How.{How}
use Rattle.chunk_core.specs.declared.code.How.TheVariants as how
use Rattle.res_ledger.specs.declared.event.StreamNo.{StreamNo}
use Rattle.res_ledger.specs.declared.event.StreamNo.TheVariants.{Outer, Inner}
use Rattle.run_rules.specs.Ends as ends
use Rattle.run_rules.specs.Ends.{EndStops, IsSilenced, IsStopped, last_stream}
use Rattle.run_rules.specs.Facts.{Acts, IsFailure}
use Rattle.run_rules.specs.Outputs.{NeverFall}
use Rattle.run_rules.specs.Work.{Work, Opener, RunRecord, Stream, begun_frames, most_of, runs_in_turn}
use Rattle.join_tale.specs.Bounds.{Bounds, bounds_of}
use Rattle.join_tale.specs.Ended.{Ended}
use Rattle.join_tale.specs.Ended.Ended.{told, wanting, whole, halted, unmade, skipped}
use Rattle.join_tale.specs.Keeping.{HasLacked, IsHighest, IsLast, IsTale, LacksForLoad}
use Rattle.join_tale.specs.Records.{EndedSo, Follows, IsRecordOf, IsSettled, WantsFor, bare}
use Rattle.join_tale.specs.Tales.{Came, HasCome, IsBegun, Message, Tale, end_of, frames_of, load_of, loads_of}
use Rattle.join_tale.proofs.Causes.{act_begun, end_of_inner, end_of_outer, halted_has_cause, inner_is, outer_is, own_stops, same_begun, silenced_is}
use Rattle.join_tale.proofs.Endings.{come_begun, ended_once}
use Rattle.join_tale.proofs.InRoom.{begin_in_room}
use Rattle.join_tale.proofs.Leaving.{left_fact, left_test}
use Rattle.join_tale.proofs.Parts.{frame_came, loads_first}
use Rattle.join_tale.proofs.Places.{at_below, none_is_some, some_is}

module _ (opener : Opener) (ss : List Stream) where
  -- the work, of which it isn't said what the streams give
  abbrev work : Work
  work = bare (Some opener) ss

  abbrev bounds : Bounds
  bounds = bounds_of opener ss

  module _ (t : Tale) (c : RunRecord) (i : IsTale bounds t) (r : IsRecordOf work t c) where
    -- where one stream is open at a time no stream above k has an event
    last_events : (k : ℕ) → IsLast bounds t k → runs_in_turn work ≡ true → ends.IsLast k c.events
    last_events k l w j a = l w j (act_begun opener ss t c i r j a)

    -- nothing was begun behind a stream that failed or found no memory
    failed_last : (k : ℕ) (h : How) → Ended t k h → IsFailure h ⊎ (h ≡ how.Memory) → IsLast bounds t k
    failed_last k h (told m) is = ⊎_elim (λ f. (i.ends.fault k f.0 (inl (subst (λ z. IsAmong (end_of k z) t.front) f.1 m))).1) (λ e. (i.ends.memory k (inl (subst (λ z. IsAmong (end_of k z) t.front) e m))).1) is
    failed_last k h (wanting m e) is = (i.ends.memory k (inr m)).1
    failed_last k h (whole m n e) is = absurd (⊎_elim (λ f. let q : how.Done ≡ how.Fault f.0 = sym e ∙ f.1 in cc) (λ s. let q : how.Done ≡ how.Memory = sym e ∙ s in cc) is)
    failed_last k h (halted e m n l q) is = i.ends.late k e m
    failed_last k h (unmade e q) is = λ w j b. (i.fates.unmade k e).1 j (inl b)
    failed_last k h (skipped e q) is = absurd (⊎_elim (λ f. let z : how.Halted ≡ how.Fault f.0 = sym q ∙ f.1 in cc) (λ s. let z : how.Halted ≡ how.Memory = sym q ∙ s in cc) is)

    silence_stops : runs_in_turn work ≡ true → IsSilenced work c → IfSome (last_stream c) (λ j. ends.IsLast j c.events)
    silence_stops w s = by_last (last_or None (begun_frames c)) refl
      where
        by_last : (l : Option Frame) → last_or None (begun_frames c) ≡ l → IfSome (option_map (λ (f : Frame). f.stream) l) (λ j. ends.IsLast j c.events)
        by_last None e = tt
        by_last (Some f) e = last_events f.stream (i.frames.last (silenced_is opener ss t c i r s) f (ap (λ (l : List Frame). last_or None l) (sym (same_begun opener ss t c i r)) ∙ e)) w

    nobody_begins : most_of work ≡ Some 0 → (q : StreamNo) → ((n : ℕ) → q ≡ Inner n → IsBegun t n) → q ≡ Outer
    nobody_begins z Outer b = refl
    nobody_begins z (Inner n) b = absurd ((i.fates.nobody z).1 n (b n refl))

    -- a stream whose end came noted that it left
    come_acts : (k : ℕ) → HasCome t k → Acts (Inner k) c.events
    come_acts k h = let l = left_fact k c.events (r.leaves k h) in (l.1.0, l.1.1, l.1.2)

    highest_events : (k : ℕ) → IsHighest t k → ends.IsLast k c.events
    highest_events k l j a = l j (act_begun opener ss t c i r j a)

    -- why nothing was begun behind a halted stream: one is open at a time, or it noted nothing
    abbrev IsAlone : ℕ → Type 0
    IsAlone k = (runs_in_turn work ≡ true) ⊎ ¬ (Acts (Inner k) c.events)

    -- of a stream whose end came only where one is open at a time
    come_last : (k : ℕ) → HasCome t k → IsLast bounds t k → IsAlone k → ends.IsLast k c.events
    come_last k h l a = ⊎_elim (λ w. last_events k l w) (λ n. absurd (n (come_acts k h))) a

    module _ (settled : IsSettled t) where
      halted_stops : (k : ℕ) (h : How) → Ended t k h → h ≡ how.Halted → IsAlone k → EndStops work c (Inner k) ⊎ ends.IsLast k c.events
      halted_stops k h (told m) is a =
          let came : Came t k how.Halted = inl (subst (λ z. IsAmong (end_of k z) t.front) is m) in
          let told = i.ends.halted k came in
          ⊎_elim (λ f. inl (own_stops opener ss t c i r settled k ((told.0, f.0), f.1))) (λ f. inr (come_last k (how.Halted, came) f.1 a)) told.2
      halted_stops k h (wanting m e) is a = absurd (let q : how.Memory ≡ how.Halted = sym e ∙ is in cc)
      halted_stops k h (whole m n e) is a = absurd (let q : how.Done ≡ how.Halted = sym e ∙ is in cc)
      halted_stops k h (halted e m n l q) is a = inr (come_last k (e, inr m) (i.ends.late k e m) a)
      halted_stops k h (unmade e q) is a = absurd (let z : how.Memory ≡ how.Halted = sym q ∙ is in cc)
      halted_stops k h (skipped e q) is a = ⊎_elim (λ f. inl (own_stops opener ss t c i r settled k f)) (λ s. inr (highest_events k (λ j b. s.1 j (inl b)))) (i.fates.skipped k e)

      stopped : IsStopped work c
      stopped = record {
        failed = λ w e j m who is. last_events j (failed_last j e.how (inner_is opener ss t c i r e j m who) is) w;
        silenced = silence_stops;
        ended = λ w j k is less left a. (let last : k ≤ j = (i.ends.until j k (r.left j (left_test j c.events left)) is).1 w (act_begun opener ss t c i r k a) in omega (arith, last, less));
        halted = λ e k m who is a. halted_stops k e.how (inner_is opener ss t c i r e k m who) is a;
        nobody = λ z e m. nobody_begins z e.by (λ n b. r.begun e n m b);
      }

    ended_memory : (k : ℕ) (h : How) → Ended t k h → h ≡ how.Memory → t.memory ≡ true
    ended_memory k h (told m) is = (i.ends.memory k (inl (subst (λ z. IsAmong (end_of k z) t.front) is m))).0
    ended_memory k h (wanting m e) is = (i.ends.memory k (inr m)).0
    ended_memory k h (whole m n e) is = absurd (let q : how.Done ≡ how.Memory = sym e ∙ is in cc)
    ended_memory k h (halted e m n l q) is = absurd (let z : how.Halted ≡ how.Memory = sym q ∙ is in cc)
    ended_memory k h (unmade e q) is = (i.fates.unmade k e).0
    ended_memory k h (skipped e q) is = absurd (let z : how.Halted ≡ how.Memory = sym q ∙ is in cc)

    memory_by : (q : StreamNo) (h : How) → EndedSo t q h → h ≡ how.Memory → t.memory ≡ true
    memory_by Outer h e is = i.fates.outer_memory (e ∙ ap (λ z. Some z) is)
    memory_by (Inner n) h e is = ended_memory n h e is

    -- the stream of an end that came late with a load left unwritten
    load_left : (k : ℕ) (h : How) (x : List ℕ) (ms : List Message) → t.late ≡ load_of k x ∷ ms → loads_of k t.late ≡ [] → ⊥
    load_left k h x ms e n = let q : x ∷ loads_of k ms ≡ [] = sym (loads_first k x ms) ∙ sym (ap (loads_of k) e) ∙ n in cc

    late_load : (k : ℕ) (h : How) (x : List ℕ) (ms : List Message) → t.late ≡ load_of k x ∷ ms → Ended t k h → (h ≡ how.Memory) ⊎ (h ≡ how.Halted)
    late_load k h x ms e (told m) = absurd (load_left k h x ms e (i.frames.whole k h m))
    late_load k h x ms e (wanting m q) = inl q
    late_load k h x ms e (whole m n q) = absurd (load_left k h x ms e n)
    late_load k h x ms e (halted g m n l q) = inr q
    late_load k h x ms e (unmade f q) = inl q
    late_load k h x ms e (skipped f q) = inr q

    wants_once : (k : ℕ) → k < length t.fates → Ended t k how.Memory → WantsFor opener ss t c
    wants_once k l m = let e = end_of_inner opener ss t c i r k l in (e.0, e.1, inl (ended_once bounds t k i e.0.how how.Memory (inner_is opener ss t c i r e.0 k e.1 e.2) m))

    come_ended : (k : ℕ) → Came t k how.Memory → Ended t k how.Memory
    come_ended k (inl m) = told m
    come_ended k (inr m) = wanting m refl

    -- a stream has a load that memory was wanting for
    wants_load : (k : ℕ) → LacksForLoad bounds t k → WantsFor opener ss t c
    wants_load k l =
        let b : IsBegun t k = (i.frames.ours (load_of k l.load) (inr (subst (λ ms. IsAmong (load_of k l.load) ms) (sym l.late) (here l.others)))).0 in
        let e = end_of_inner opener ss t c i r k (at_below t.fates k _ b) in
        let loud : ¬ (IsSilenced work c) = λ s. ⊎_elim (λ m. l.unmet m) (λ u. none_is_some t.cut l.uncut u) (silenced_is opener ss t c i r s) in
        (e.0, e.1, ⊎_elim (λ m. inl m) (λ h. inr (h, loud, (k, e.2, l))) (late_load k e.0.how l.load l.others l.late (inner_is opener ss t c i r e.0 k e.1 e.2)))

    lacked_wants : HasLacked bounds t → WantsFor opener ss t c
    lacked_wants h = ⊎_elim
        (λ m. wants_once m.0 (at_below t.fates m.0 _ (come_begun bounds t m.0 i how.Memory m.1)) (come_ended m.0 m.1))
        (λ y. ⊎_elim
        (λ o. let e = end_of_outer opener ss t c i r in (e.0, e.1, inl (some_is e.0.how how.Memory (sym (outer_is opener ss t c i r e.0 e.1 e.2) ∙ o))))
        (λ z. ⊎_elim (λ f. wants_once f.0 (at_below t.fates f.0 _ f.1) (unmade f.1 refl)) (λ l. wants_load l.0 l.1) z)
        y)
        h

    pub wants_for : c.memory ≡ true → WantsFor opener ss t c
    wants_for m = lacked_wants (i.lacked (sym r.memory ∙ m))

    numbers : (f : Frame) → IsAmong f (frames_of t.front) → (f.stream < length work.streams) × (0 < length f.payload)
    numbers f m =
        let o = i.frames.ours (load_of f.stream f.payload) (inl (frame_came f t.front m)) in
        let l = at_below t.fates f.stream _ o.0 in
        (omega (arith, l, r.count), o.1)

    pub record_follows : IsSettled t → Follows work c
    record_follows settled = record {
      halted = halted_has_cause opener ss t c i r settled;
      stopped = stopped settled;
      memory = λ e m is. r.memory ∙ memory_by e.who e.how (r.told e m) is;
      begins = begin_in_room opener ss t c i r settled;
      in_turn = λ w. subst (λ l. NeverFall l) (sym (same_begun opener ss t c i r)) (i.frames.in_turn w);
      numbers = subst (λ (F : List Frame). AllByRecursion (λ (f : Frame). (f.stream < length work.streams) × (0 < length f.payload)) F) (sym r.frames) (each_among (λ (f : Frame). (f.stream < length work.streams) × (0 < length f.payload)) (frames_of t.front) numbers);
      few = subst (λ (l : List Frame). IfSome (most_of work) (λ n. length l ≤ n)) (sym (same_begun opener ss t c i r)) i.frames.few;
    }
