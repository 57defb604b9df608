-- That streams had their turns in room that was there, in the words of a record.
use Rattle.std.proofs.Common.{◌≡◌, ◌⊎◌, ℕ, ◌<◌, List, Option, Some, None, inl, inr, refl, sym, ap, ◌∙◌, subst, ⊎_elim, arith}
use Rattle.std.specs.Prelude.{option_map}
use Rattle.std.specs.List.{last_or}
use Rattle.chunk_core.specs.Lists.{IsAmong}
use Rattle.chunk_core.specs.Texts.{Frame}
use Rattle.chunk_core.specs.declared.code.How.{How}
use Rattle.chunk_core.specs.declared.code.How.TheVariants as how
use Rattle.res_ledger.specs.declared.event.StreamNo.TheVariants.{Inner}
use Rattle.run_rules.specs.Ends as ends
use Rattle.run_rules.specs.Ends.{BeginInRoom, EndStops, HadRoom, HasStoppedAll, IsSilenced, OutlastsBegin, PrintsBehind, WasIn, last_stream}
use Rattle.run_rules.specs.Facts.{Acts, IsFailure}
use Rattle.run_rules.specs.Work.{Opener, RunRecord, Stream, Work, begun_frames}
use Rattle.join_tale.specs.Bounds.{Bounds, bounds_of}
use Rattle.join_tale.specs.Ended.{Ended}
use Rattle.join_tale.specs.Ended.Ended.{told, wanting, whole, halted, unmade, skipped}
use Rattle.join_tale.specs.Keeping.{HadTurn, HasEndedAll, IsLastTurn, IsTale, PrintedLast, WasOpen}
use Rattle.join_tale.specs.Records.{IsRecordOf, IsSettled, bare}
use Rattle.join_tale.specs.Tales.{HasCome, Tale, end_of}
use Rattle.join_tale.proofs.Causes.{act_begun, inner_is, own_stops, same_begun, silenced_is}
use Rattle.join_tale.proofs.Leaving.{left_fact, left_test}
use Rattle.join_tale.proofs.Places.{none_some, some_is}

done_not : (h : How) → h ≡ how.Done → IsFailure h ⊎ (h ≡ how.Memory) → ⊥
done_not h e is = ⊎_elim (λ f. let q : how.Done ≡ how.Fault f.0 = sym e ∙ f.1 in cc) (λ m. let q : how.Done ≡ how.Memory = sym e ∙ m in cc) is

halted_not : (h : How) → h ≡ how.Halted → IsFailure h ⊎ (h ≡ how.Memory) → ⊥
halted_not h e is = ⊎_elim (λ f. let q : how.Halted ≡ how.Fault f.0 = sym e ∙ f.1 in cc) (λ m. let q : how.Halted ≡ how.Memory = sym e ∙ m in cc) is

module _ (opener : Opener) (ss : List Stream) where
  -- the work, of which it isn't said what the streams give
  abbrev work : Work
  work = bare (Some opener) ss

  abbrev bounds : Bounds
  bounds = bounds_of opener ss

  module _ (t : Tale) (c : RunRecord) (i : IsTale bounds t) (r : IsRecordOf work t c) where
    -- a stream failed or found no memory
    failed_all : (j : ℕ) (h : How) → Ended t j h → IsFailure h ⊎ (h ≡ how.Memory) → HasEndedAll bounds t j
    failed_all j h (told m) is = ⊎_elim
        (λ f. inl (f.0, inl (subst (λ z. IsAmong (end_of j z) t.front) f.1 m)))
        (λ e. inr (inl (inl (subst (λ z. IsAmong (end_of j z) t.front) e m))))
        is
    failed_all j h (wanting m e) is = inr (inl (inr m))
    failed_all j h (whole m n e) is = absurd (done_not h e is)
    failed_all j h (halted g m n l e) is = absurd (halted_not h e is)
    failed_all j h (unmade f e) is = inr (inr (inr (inr f)))
    failed_all j h (skipped f e) is = absurd (halted_not h e is)

    module _ (settled : IsSettled t) where
      -- a stream below k, which had its turn, was halted, and not by the end that stops it
      halted_all : (k j : ℕ) (h : How) → HadTurn t k → j < k → Ended t j h → h ≡ how.Halted → ¬ (EndStops work c (Inner j)) → HasEndedAll bounds t j
      halted_all k j h b l (told m) is n = inr (inr (inl (inl (subst (λ z. IsAmong (end_of j z) t.front) is m), λ f. n (own_stops opener ss t c i r settled j f))))
      halted_all k j h b l (wanting m e) is n = absurd (let q : how.Memory ≡ how.Halted = sym e ∙ is in cc)
      halted_all k j h b l (whole m q e) is n = absurd (let z : how.Done ≡ how.Halted = sym e ∙ is in cc)
      halted_all k j h b l (halted g m q z e) is n = inr (inr (inr (inl (g, m))))
      halted_all k j h b l (unmade f e) is n = absurd (let q : how.Memory ≡ how.Halted = sym e ∙ is in cc)
      halted_all k j h b l (skipped f e) is n = absurd (⊎_elim (λ o. n (own_stops opener ss t c i r settled j o)) (λ s. let m = s.1 k b in omega (arith, m, l)) (i.fates.skipped j f))

      stopped_all : (k j : ℕ) → HadTurn t k → j < k → HasStoppedAll work c j → HasEndedAll bounds t j
      stopped_all k j b l s =
          let e : Ended t j s.0.how = inner_is opener ss t c i r s.0 j s.1 s.2 in
          ⊎_elim (λ f. failed_all j s.0.how e (inl f)) (λ x. ⊎_elim (λ m. failed_all j s.0.how e (inr m)) (λ h. halted_all k j s.0.how b l e h.0 h.1) x) s.3

      -- the stream of the frame that was begun last
      last_is : (j : ℕ) (o : Option Frame) → option_map (λ (f : Frame). f.stream) o ≡ Some j → (f : Frame) × (o ≡ Some f) × (f.stream ≡ j)
      last_is j (Some f) e = (f, refl, some_is f.stream j e)
      last_is j None e = absurd (none_some e)

      printed_last : (j : ℕ) → IsSilenced work c × (last_stream c ≡ Some j) → PrintedLast bounds t j
      printed_last j s = let f = last_is j (last_or None (begun_frames c)) s.1 in (silenced_is opener ss t c i r s.0, f.0, ap (λ l. last_or None l) (sym (same_begun opener ss t c i r)) ∙ f.1, f.2)

      outlasts : (k j : ℕ) → OutlastsBegin work c k j → WasOpen bounds t k j
      outlasts k j w = inr (inr (inr (act_begun opener ss t c i r k w.0, ⊎_elim (λ p. inl (subst (λ F. PrintsBehind F k j) (same_begun opener ss t c i r) p)) (λ u. inr (u.0, r.left j (left_test j c.events u.1))) w.1)))

      -- those that were open are among those that are told
      was_open : (k j : ℕ) → HadTurn t k → j < k → ends.WasOpen work c k j → WasIn c.events k j ⊎ WasOpen bounds t k j
      was_open k j h l w = ⊎_elim
          (λ s. inl s)
          (λ x. inr (⊎_elim (λ s. inr (inl (stopped_all k j h l s))) (λ y. ⊎_elim (λ s. inr (inr (inl (printed_last j s)))) (λ u. outlasts k j u) y) x))
          w

      had_room : (k : ℕ) → ends.HadTurn c.events k → HadRoom opener.max_open work c k
      had_room k a =
          let h = r.turns k a in
          let had = i.room.had k h in
          (t.room k, had.0, λ j l w. ⊎_elim (λ s. r.room k j l s) (λ o. had.1 j l o) (was_open k j h l w))

      -- a stream whose end came noted that it left
      come_acts : (k : ℕ) → HasCome t k → Acts (Inner k) c.events
      come_acts k h = let l = left_fact k c.events (r.leaves k h) in (l.1.0, l.1.1, l.1.2)

      last_turn : (k : ℕ) → IsLastTurn t k → ends.IsLastTurn k c.events
      last_turn k l j a = l j (r.turns j a)

      passes_last : (k : ℕ) (h : How) → Ended t k h → ¬ (Acts (Inner k) c.events) → EndStops work c (Inner k) ⊎ ends.IsLastTurn k c.events
      passes_last k h (told m) n = absurd (n (come_acts k (h, inl m)))
      passes_last k h (wanting m e) n = absurd (n (come_acts k (how.Memory, inr m)))
      passes_last k h (whole m q e) n = absurd (n (come_acts k (how.Done, inr m)))
      passes_last k h (halted g m q z e) n = absurd (n (come_acts k (g, inr m)))
      passes_last k h (unmade f e) n = inr (last_turn k (i.fates.unmade k f).1)
      passes_last k h (skipped f e) n = ⊎_elim (λ o. inl (own_stops opener ss t c i r settled k o)) (λ s. inr (last_turn k s.1)) (i.fates.skipped k f)

      pub begin_in_room : BeginInRoom work.opener work c
      begin_in_room = record { room = had_room; passed = λ e k m who none. passes_last k e.how (inner_is opener ss t c i r e k m who) none }
