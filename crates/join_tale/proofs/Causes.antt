-- Why a stream is halted, in the words of a record.
use Rattle.std.proofs.Common.{◌≡◌, ◌≢◌, ◌⊎◌, ℕ, zero, suc, ◌+◌, ◌<◌, ◌≤◌, true, List, [], ◌∷◌, ◌++◌, map, length, Option, Some, None, IfSome, is_some, inl, inr, refl, sym, ap, ◌∙◌, subst, ⊎_elim, arith}
use Rattle.std.specs.Prelude.{option_map}
use Rattle.std.specs.List.{last_or}
use Rattle.chunk_core.specs.Lists.{IsAmong}
use Rattle.chunk_core.specs.Lists.IsAmong.{here, there}
use Rattle.chunk_core.specs.Texts.{Frame}
use Rattle.chunk_core.proofs.Filters.{among_append}
use Rattle.chunk_core.proofs.Members.{among_cons, among_mid, among_nil}
use Rattle.chunk_core.specs.declared.code.Code.{Code}
use Rattle.chunk_core.specs.declared.code.How.{How}
use Rattle.chunk_core.specs.declared.code.How.TheVariants as how
use Rattle.interrupt_ctx.specs.Views.{interruption}
use Rattle.interrupt_ctx.specs.declared.why.Stop.{Stop}
use Rattle.interrupt_ctx.specs.declared.why.Why.{Why}
use Rattle.interrupt_ctx.specs.declared.why.Why.TheVariants as why
use Rattle.res_ledger.specs.declared.event.StreamNo.{StreamNo}
use Rattle.res_ledger.specs.declared.event.StreamNo.TheVariants.{Outer, Inner}
use Rattle.run_rules.specs.declared.end.EndOf.{EndOf}
use Rattle.run_rules.specs.Ends.{ClosesBefore, EndStops, HasCauseToHalt, IsSilenced, MayStop}
use Rattle.run_rules.specs.Facts.{Acts, at}
use Rattle.run_rules.specs.Work.{Work, Opener, RunRecord, Stream, begun_frames, names_from, until_by}
use Rattle.stop_places.specs.Places.{ClosedWithin}
use Rattle.stop_places.proofs.Order.{closes_follow}
use Rattle.join_tale.specs.Bounds.{Bounds, bounds_of}
use Rattle.join_tale.specs.Ended.{Ended}
use Rattle.join_tale.specs.Ended.Ended.{told, wanting, whole, halted, unmade, skipped}
use Rattle.join_tale.specs.Keeping.{HasCeased, IsEndedInTurn, IsHighest, IsLast, IsOuterStopped, IsOuterTold, IsTale, IsToldToHalt}
use Rattle.join_tale.specs.Records.{EndedSo, IsRecordOf, IsSettled, bare}
use Rattle.join_tale.specs.Tales.{Came, FailedSo, HasCome, HasMet, IsBegun, IsCaused, IsFoundSet, Tale, end_of, frames_begun, frames_of, load_of}
use Rattle.join_tale.specs.Tales.Fate.{Begun, Skipped}
use Rattle.join_tale.proofs.Endings.{come_begun, ended_once}
use Rattle.join_tale.proofs.Growing.{until_came, until_why}
use Rattle.join_tale.proofs.Leaving.{left_fact}
use Rattle.join_tale.proofs.Parts.{frame_came}
use Rattle.join_tale.proofs.Places.{at_below, last_among, none_is_some, none_some, some_is}
use Rattle.join_tale.proofs.Ceasing.{late_ceased}

cut_some : (o p : Option Frame) → o ≡ p → o ≢ None → is_some p ≡ true
cut_some None p e n = absurd (n refl)
cut_some (Some f) p e n = sym (ap (λ (q : Option Frame). is_some q) e)

-- The ends by their names.

name_in : (k : ℕ) (ss : List Stream) (j n : ℕ) → n ≡ k + j → j < length ss → IsAmong (Inner n) (names_from k ss)
name_in k [] j n e l = absurd (omega arith)
name_in k (s ∷ ss) zero n e l = let q : k ≡ n = omega (arith, e) in subst (λ m. IsAmong (Inner m) (Inner k ∷ names_from (suc k) ss)) q (here (names_from (suc k) ss))
name_in k (s ∷ ss) (suc j) n e l = there (Inner k) (name_in (suc k) ss j n (omega (arith, e)) (omega arith))

inner_in : (ss : List Stream) (j : ℕ) → j < length ss → IsAmong (Inner j) (Outer ∷ names_from 0 ss)
inner_in ss j l = there Outer (name_in 0 ss j j (omega arith) l)

end_named : (es : List EndOf) (k : StreamNo) → IsAmong k (map (λ e. e.who) es) → (e : EndOf) × IsAmong e es × (e.who ≡ k)
end_named [] k m = absurd (among_nil m)
end_named (e ∷ es) k m = ⊎_elim (λ q. (e, here es, sym q)) (λ n. let f = end_named es k n in (f.0, there e f.1, f.2)) (among_cons m)

-- Who may stop whom.

outer_stops : (work : Work) (k : StreamNo) → MayStop work Outer k
outer_stops work Outer = tt
outer_stops work (Inner k) = tt

-- all that were begun may stop k
abbrev pub MayAllStop : Work → Tale → StreamNo → Type 0
MayAllStop work t k = (j : ℕ) → IsBegun t j → MayStop work (Inner j) k

pub last_stops : (o : Opener) (ss : List Stream) (t : Tale) (k : ℕ) → IsLast (bounds_of o ss) t k → MayAllStop (bare (Some o) ss) t (Inner k)
last_stops o ss t k l j b w = l w j b

module _ (opener : Opener) (ss : List Stream) where
  -- the work, of which it isn't said what the streams give
  abbrev work : Work
  work = bare (Some opener) ss

  abbrev bounds : Bounds
  bounds = bounds_of opener ss

  module _ (t : Tale) (c : RunRecord) (i : IsTale bounds t) (r : IsRecordOf work t c) where
    -- each stream that has a fate has an end
    pub end_of_inner : (k : ℕ) → k < length t.fates → (e : EndOf) × IsAmong e c.ends × (e.who ≡ Inner k)
    end_of_inner k l = end_named c.ends (Inner k) (subst (λ x. IsAmong (Inner k) x) (sym r.named) (inner_in ss k (omega (arith, l, r.count))))

    pub end_of_outer : (e : EndOf) × IsAmong e c.ends × (e.who ≡ Outer)
    end_of_outer = end_named c.ends Outer (subst (λ l. IsAmong Outer l) (sym r.named) (here (names_from 0 ss)))

    pub same_begun : begun_frames c ≡ frames_begun t
    same_begun = ap (λ (F : List Frame). F ++ elim c.cut [ Some f ↦ f ∷ [] | None ↦ [] ]) r.frames ∙ ap (λ (o : Option Frame). frames_of t.front ++ elim o [ Some f ↦ f ∷ [] | None ↦ [] ]) r.cut

    written_begun : (f : Frame) → IsAmong f (frames_of t.front) → IsBegun t f.stream
    written_begun f m = (i.frames.ours (load_of f.stream f.payload) (inl (frame_came f t.front m))).0

    cut_begun : (o : Option Frame) (f : Frame) → t.cut ≡ o → IsAmong f (elim o [ Some g ↦ g ∷ [] | None ↦ [] ]) → IsBegun t f.stream
    cut_begun None f e m = absurd (among_nil m)
    cut_begun (Some g) f e m =
        let q = i.frames.cut g e in
        let b : IsBegun t g.stream = (i.frames.ours (load_of g.stream g.payload) (inr (subst (λ l. IsAmong (load_of g.stream g.payload) l) (sym q.1) (here q.0)))).0 in
        ⊎_elim (λ (s : f ≡ g). subst (λ (h : Frame). IsBegun t h.stream) (sym s) b) (λ n. absurd (among_nil n)) (among_cons m)

    -- the stream of a frame that was begun last was begun
    pub last_begun : (f : Frame) → last_or None (begun_frames c) ≡ Some f → IsBegun t f.stream
    last_begun f e = ⊎_elim
        (λ m. ⊎_elim (λ n. written_begun f n) (λ n. cut_begun t.cut f refl n) (among_append f (frames_of t.front) (elim t.cut [ Some g ↦ g ∷ [] | None ↦ [] ]) (subst (λ l. IsAmong f l) same_begun m)))
        (λ n. absurd (none_some n))
        (last_among None (begun_frames c) f e)

    pub act_begun : (k : ℕ) → Acts (Inner k) c.events → IsBegun t k
    act_begun k a = r.begun a.0 k a.1 a.2

    pub silenced_is : IsSilenced work c → HasMet bounds t ⊎ (is_some t.cut ≡ true)
    silenced_is s = ⊎_elim (λ n. inr (cut_some c.cut t.cut r.cut n)) (λ m. inl (m ∙ ap (λ (F : List Frame). Some (length F)) r.frames)) s

    met_silences : HasMet bounds t → IsSilenced work c
    met_silences m = inr (m ∙ ap (λ (F : List Frame). Some (length F)) (sym r.frames))

    cut_silences : is_some t.cut ≡ true → IsSilenced work c
    cut_silences s = inl (λ e. none_is_some t.cut (sym r.cut ∙ e) s)

    last_may : (k : StreamNo) → MayAllStop work t k → (l : Option Frame) → ((f : Frame) → l ≡ Some f → IsBegun t f.stream) → IfSome (option_map (λ (f : Frame). f.stream) l) (λ j. MayStop work (Inner j) k)
    last_may k all (Some f) b = all f.stream (b f refl)
    last_may k all None b = tt

    silence_cause : (k : StreamNo) → MayAllStop work t k → IsSilenced work c → HasCauseToHalt work c k
    silence_cause k all s = inl (s, last_may k all (last_or None (begun_frames c)) last_begun)

    memory_cause : (k : StreamNo) → t.memory ≡ true → HasCauseToHalt work c k
    memory_cause k m = inr (inl (r.memory ∙ m))

    ceased_cause : (k : StreamNo) → MayAllStop work t k → HasCeased bounds t → HasCauseToHalt work c k
    ceased_cause k all s = ⊎_elim (λ m. silence_cause k all (met_silences m)) (λ z. ⊎_elim (λ q. silence_cause k all (cut_silences q)) (λ m. memory_cause k m) z) s

    pub inner_is : (e : EndOf) (k : ℕ) → IsAmong e c.ends → e.who ≡ Inner k → Ended t k e.how
    inner_is e k m w = subst (λ (q : StreamNo). EndedSo t q e.how) w (r.told e m)

    pub outer_is : (e : EndOf) → IsAmong e c.ends → e.who ≡ Outer → t.outer ≡ Some e.how
    outer_is e m w = subst (λ (q : StreamNo). EndedSo t q e.how) w (r.told e m)

    inner_failed : (k : StreamNo) → MayAllStop work t k → (j : ℕ) (f : Code) → Came t j (how.Fault f) → ClosesBefore c.events (Inner j) k → HasCauseToHalt work c k
    inner_failed k all j f (inl m) first =
        let b : IsBegun t j = come_begun bounds t j i (how.Fault f) (inl m) in
        let e = end_of_inner j (at_below t.fates j _ b) in
        let same : e.0.how ≡ how.Fault f = ended_once bounds t j i e.0.how (how.Fault f) (inner_is e.0 j e.1 e.2) (told m) in
        inr (inr (inl (e.0, e.1, (f, same), subst (λ (q : StreamNo). MayStop work q k) (sym e.2) (all j b), subst (λ (q : StreamNo). ClosesBefore c.events q k) (sym e.2) first)))
    inner_failed k all j f (inr m) first = ceased_cause k all (i.frames.ceased (late_ceased bounds t i (end_of j (how.Fault f)) m))

    outer_failed : (k : StreamNo) (f : Code) → t.outer ≡ Some (how.Fault f) → ClosesBefore c.events Outer k → HasCauseToHalt work c k
    outer_failed k f o first =
        let e = end_of_outer in
        let same : e.0.how ≡ how.Fault f = some_is e.0.how (how.Fault f) (sym (outer_is e.0 e.1 e.2) ∙ o) in
        inr (inr (inl (e.0, e.1, (f, same), subst (λ (q : StreamNo). MayStop work q k) (sym e.2) (outer_stops work k), subst (λ (q : StreamNo). ClosesBefore c.events q k) (sym e.2) first)))

    failed_cause : (k : StreamNo) → MayAllStop work t k → (j : StreamNo) → FailedSo t j → ClosesBefore c.events j k → HasCauseToHalt work c k
    failed_cause k all (Inner j) f first = inner_failed k all j f.0 f.1 first
    failed_cause k all Outer f first = outer_failed k f.0 f.1 first

    -- who closed its root within the front that a stop names did so before k
    abbrev IsBehind : StreamNo → Stop → Type 0
    IsBehind k w = (j : StreamNo) → ClosedWithin c.events j w.at → ClosesBefore c.events j k

    -- k obeyed it
    obeyed_behind : (k : StreamNo) (w : Stop) → IsAmong (k, w) t.obeyed → IsBehind k w
    obeyed_behind k w m j within = closes_follow c.events j k w.at r.stamped within (r.behind k w m)

    -- k noted nothing, so that it closed no root
    silent_behind : (k : ℕ) → ¬ (IsBegun t k) → (j : StreamNo) → ClosesBefore c.events j (Inner k)
    silent_behind k none j P Q e x is by what = absurd (none (r.begun e k (subst (λ l. IsAmong e l) (sym is) (among_mid P Q e)) by))

    -- the code for all streams is set
    run_cause : (k : StreamNo) → MayAllStop work t k → (w : Stop) → IsAmong (interruption 0 w) t.set → IsBehind k w → (v : Why) → w.why ≡ v → IsCaused bounds t 0 v → HasCauseToHalt work c k
    run_cause k all w m behind why.Take is h = silence_cause k all (met_silences h.1)
    run_cause k all w m behind why.Until is h = absurd (let q : 0 ≡ suc h.0 = h.2 in omega (q, arith))
    run_cause k all w m behind why.Sink is h = silence_cause k all (cut_silences h.1)
    run_cause k all w m behind why.Memory is h = memory_cause k h.1
    run_cause k all w m behind why.Fault is h = let f = r.failed 0 w m is in failed_cause k all f.0 f.1 (behind f.0 f.2)

    -- the one has ended whose end stops k
    end_stops : (k j : ℕ) → until_by work (Inner k) ≡ Some j → HasCome t j → IsEndedInTurn bounds t k → EndStops work c (Inner k)
    end_stops k j is come turn = (j, is, left_fact j c.events (r.leaves j come), λ w. let e = turn w in subst (λ z. z ≤ k) (some_is e.0 j (sym e.1 ∙ is)) e.3)

    module _ (settled : IsSettled t) where
      found_run : (k : StreamNo) → MayAllStop work t k → (w : Stop) → IsAmong (interruption 0 w) t.seen → IsBehind k w → HasCauseToHalt work c k
      found_run k all w m behind = let s = settled 0 w m in run_cause k all w s behind w.why refl (i.caused 0 w s)

      -- its own code was found
      pub own_stops : (k : ℕ) → IsFoundSet t (suc k) × IsEndedInTurn bounds t k → EndStops work c (Inner k)
      own_stops k f = let s = settled (suc k) f.0.0 f.0.1 in let u = until_came bounds t k f.0.0.why (i.caused (suc k) f.0.0 s) in end_stops k u.0 u.1 u.2 f.1

      own_cause : (k : ℕ) (w : Stop) → IsAmong (interruption (suc k) w) t.seen → IsEndedInTurn bounds t k → IsBehind (Inner k) w → HasCauseToHalt work c (Inner k)
      own_cause k w m turn behind =
          let s = settled (suc k) w m in
          let u = r.ended (suc k) w s (until_why bounds t k w.why (i.caused (suc k) w s)) in
          let same : u.0 ≡ k = (let q = u.2 in omega (arith, q)) in
          let stops = own_stops k ((w, m), turn) in
          let one : u.1 ≡ stops.0 = some_is u.1 stops.0 (sym (subst (λ n. until_by work (Inner n) ≡ Some u.1) same u.3) ∙ stops.1) in
          inr (inr (inr (stops.0, stops.1, stops.2, stops.3, subst (λ n. ClosesBefore c.events (Inner n) (Inner k)) one (behind (Inner u.1) u.4))))

      told_cause : (k : ℕ) → IsToldToHalt bounds t k → HasCauseToHalt work c (Inner k)
      told_cause k h =
          let behind : IsBehind (Inner k) h.0 = obeyed_behind (Inner k) h.0 h.1 in
          ⊎_elim (λ f. own_cause k h.0 f.0 f.1 behind) (λ f. found_run (Inner k) (last_stops opener ss t k f.1) h.0 f.0 behind) h.2

      outer_halted : IsOuterTold t → HasCauseToHalt work c Outer
      outer_halted h = found_run Outer (λ j b. tt) h.0 h.2 (obeyed_behind Outer h.0 h.1)

      -- a stream that wasn't begun, where the outer one was stopped
      outer_stopped : (k : ℕ) → MayAllStop work t (Inner k) → ¬ (IsBegun t k) → (h : How) → t.outer ≡ Some h → h ≢ how.Done → HasCauseToHalt work c (Inner k)
      outer_stopped k all none how.Halted e n = let q = i.fates.outer_halted e in found_run (Inner k) all q.0 q.2 (λ j within. silent_behind k none j)
      outer_stopped k all none (how.Fault f) e n = outer_failed (Inner k) f e (silent_behind k none Outer)
      outer_stopped k all none how.Memory e n = memory_cause (Inner k) (i.fates.outer_memory e)
      outer_stopped k all none how.Done e n = absurd (n refl)

      run_stopped : (k : ℕ) → ¬ (IsBegun t k) → IsFoundSet t 0 ⊎ IsOuterStopped t → IsHighest t k → HasCauseToHalt work c (Inner k)
      run_stopped k none s l =
          let all : MayAllStop work t (Inner k) = last_stops opener ss t k (λ w. l) in
          ⊎_elim (λ f. found_run (Inner k) all f.0 f.1 (λ j within. silent_behind k none j)) (λ o. outer_stopped k all none o.0 o.1 o.2) s

      unbegun : (k : ℕ) → at t.fates k ≡ Some Skipped → ¬ (IsBegun t k)
      unbegun k e b = let q : Skipped ≡ Begun = some_is Skipped Begun (sym e ∙ b) in cc

      skipped_cause : (k : ℕ) → at t.fates k ≡ Some Skipped → HasCauseToHalt work c (Inner k)
      skipped_cause k e =
          let none : ¬ (IsBegun t k) = unbegun k e in
          ⊎_elim (λ f. own_cause k f.0.0 f.0.1 f.1 (λ j within. silent_behind k none j)) (λ s. run_stopped k none s.0 (λ j b. s.1 j (inl b))) (i.fates.skipped k e)

      inner_halted : (k : ℕ) (h : How) → Ended t k h → h ≡ how.Halted → HasCauseToHalt work c (Inner k)
      inner_halted k h (told m) is = told_cause k (i.ends.halted k (inl (subst (λ z. IsAmong (end_of k z) t.front) is m)))
      inner_halted k h (wanting m e) is = absurd (let q : how.Memory ≡ how.Halted = sym e ∙ is in cc)
      inner_halted k h (whole m n e) is = absurd (let q : how.Done ≡ how.Halted = sym e ∙ is in cc)
      inner_halted k h (halted e m n l q) is = ceased_cause (Inner k) (last_stops opener ss t k (i.ends.late k e m)) (i.frames.ceased (late_ceased bounds t i (end_of k e) m))
      inner_halted k h (unmade e q) is = absurd (let z : how.Memory ≡ how.Halted = sym q ∙ is in cc)
      inner_halted k h (skipped e q) is = skipped_cause k e

      halted_by : (k : StreamNo) (h : How) → EndedSo t k h → h ≡ how.Halted → HasCauseToHalt work c k
      halted_by Outer h e is = outer_halted (i.fates.outer_halted (e ∙ ap (λ z. Some z) is))
      halted_by (Inner k) h e is = inner_halted k h e is

      pub halted_has_cause : (e : EndOf) → IsAmong e c.ends → e.how ≡ how.Halted → HasCauseToHalt work c e.who
      halted_has_cause e m is = halted_by e.who e.how (r.told e m) is
