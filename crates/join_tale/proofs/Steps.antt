-- How a tale begins, and what keeps it but messages.
use Rattle.std.proofs.Common.{◌≡◌, ◌≢◌, ◌⊎◌, ℕ, suc, ◌≤◌, Bool, true, false, ◌||◌, List, [], ◌∷◌, ◌++◌, length, Option, Some, None, IfSome, inl, inr, refl, sym, ap, ◌∙◌, subst, ⊎_elim, arith, length-append}
use Rattle.chunk_core.proofs.Bools.{either, or_left, or_right}
use Rattle.chunk_core.proofs.Members.{among_left, among_nil}
use Rattle.chunk_core.specs.declared.code.How.{How}
use Rattle.chunk_core.specs.declared.code.How.TheVariants as how
use Rattle.interrupt_ctx.specs.declared.view.Interruption.{Interruption}
use Rattle.interrupt_ctx.specs.declared.why.Stop.{Stop}
use Rattle.interrupt_ctx.specs.declared.why.Why.{Why}
use Rattle.interrupt_ctx.specs.declared.why.Why.TheVariants as why
use Rattle.run_rules.specs.Facts.{is_memory}
use Rattle.join_tale.specs.Bounds.{Bounds}
use Rattle.join_tale.specs.Keeping.{IsEndedInTurn, IsLastTurn, IsOuterStopped, IsOwnCode, IsTale, KeepsEnds, KeepsFates, KeepsFrames, KeepsRoom}
use Rattle.join_tale.specs.Steps.{Marks, MayBegin, TellsOuter, fated, first_tale, learned, outer_ended, unmade}
use Rattle.join_tale.specs.Tales.{AreCaused, Fate, HasCome, IsBegun, IsCaused, IsFoundSet, IsKnown, Tale, end_of}
use Rattle.join_tale.specs.Tales.Fate.{Begun, Skipped, Unmade}
use Rattle.join_tale.proofs.Ceasing.{cut_ceased, late_ceased, memory_ceased}
use Rattle.join_tale.proofs.Framing.{frames_stay}
use Rattle.join_tale.proofs.Growing.{Grows, NoEnd, cause_grows, caused_more, ends_kept, fates_kept, fates_stay, known_more, lacked_grows, lacks_still, marked_caused, marked_known, none_fresh, outer_told_grows, own_grows, own_told, why_caused}
use Rattle.join_tale.proofs.Room.{begun_room, room_passes, stays, turn_next}
use Rattle.join_tale.proofs.Places.{at_below, at_last, at_left, at_snoc, none_some, not_both, or_false, some_is}

pub memory_is : (h : How) → is_memory h ≡ true → h ≡ how.Memory
memory_is how.Memory e = refl
memory_is how.Done e = absurd (not_both false refl e)
memory_is how.Halted e = absurd (not_both false refl e)
memory_is (how.Fault c) e = absurd (not_both false refl e)

-- Nothing was received yet.

no_place : {A : Type 0} (xs ys : List A) (y : A) → [] ≡ xs ++ y ∷ ys → ⊥
no_place [] ys y e = cc
no_place (x ∷ xs) ys y e = cc

few_zero : (o : Option ℕ) → IfSome o (λ n. 0 ≤ n)
few_zero None = tt
few_zero (Some n) = omega arith

module _ (bounds : Bounds) (vs cs : List Interruption) (b : Bool) where
  first_frames : (b ≡ true → bounds.most ≡ Some 0) → (bounds.most ≡ Some 0 → b ≡ true) → KeepsFrames bounds (record first_tale { set = vs; seen = cs; ceased = b })
  first_frames ceased met = record {
    quiet = λ e. (refl, refl, refl);
    ceased = λ e. inl (ceased e);
    met = met;
    few = few_zero bounds.most;
    cut = λ f e. absurd (none_some e);
    in_turn = λ w A B f h e m. absurd (no_place A B h e);
    last = λ h f e. absurd (none_some e);
    whole = λ k h m. refl;
    ours = λ m h. absurd (⊎_elim (λ n. among_nil n) (λ n. among_nil n) h);
  }

  first_ends : KeepsEnds bounds (record first_tale { set = vs; seen = cs; ceased = b })
  first_ends = record {
    halted = λ k c. absurd (⊎_elim (λ n. among_nil n) (λ n. among_nil n) c);
    fault = λ k c m. absurd (⊎_elim (λ n. among_nil n) (λ n. among_nil n) m);
    memory = λ k c. absurd (⊎_elim (λ n. among_nil n) (λ n. among_nil n) c);
    until = λ j k c is. absurd (⊎_elim (λ n. among_nil n) (λ n. among_nil n) c.1);
    late = λ k h m. absurd (among_nil m);
    in_turn = λ w k e. absurd (none_some e);
    once = λ k h g c d. absurd (⊎_elim (λ n. among_nil n) (λ n. among_nil n) c);
    apart = λ k h g m n. among_nil m;
  }

  first_fates : (bounds.most ≡ Some 0 → IsKnown (learned first_tale vs cs) 0) → KeepsFates bounds (record first_tale { set = vs; seen = cs; ceased = b })
  first_fates known = record {
    skipped = λ k e. absurd (none_some e);
    unmade = λ k e. absurd (none_some e);
    nobody = λ m. (known m, λ k e. none_some e);
    outer_halted = λ e. absurd (none_some e);
    outer_fault = λ c e. absurd (none_some e);
    outer_memory = λ e. absurd (none_some e);
  }

  first_room : KeepsRoom bounds (record first_tale { set = vs; seen = cs; ceased = b })
  first_room = record { had = λ k h. absurd (⊎_elim (λ e. none_some e) (λ m. among_nil m) h); now = λ m. absurd (among_nil m); next = λ k m. absurd (among_nil m) }

pub starts : (bounds : Bounds) → bounds.most ≢ Some 0 → IsTale bounds first_tale
starts bounds doesnt = record {
  frames = first_frames bounds [] [] false (λ e. absurd (not_both false refl e)) (λ m. absurd (doesnt m));
  ends = first_ends bounds [] [] false;
  fates = first_fates bounds [] [] false (λ m. absurd (doesnt m));
  room = first_room bounds [] [] false;
  caused = λ c w m. absurd (among_nil m);
  lacked = λ m. absurd (not_both false refl m);
  stop = λ e. absurd (not_both false refl e);
}

pub starts_met : (bounds : Bounds) {w : Stop} (vs cs : List Interruption) → w.why ≡ why.Take → Marks 0 w vs cs → bounds.most ≡ Some 0 → IsTale bounds (record (learned first_tale vs cs) { ceased = true })
starts_met bounds {w = w} vs cs is mark does =
    let known : IsKnown (learned first_tale vs cs) 0 = marked_known first_tale 0 w vs cs mark in
    record {
      frames = first_frames bounds vs cs true (λ e. does) (λ e. refl);
      ends = first_ends bounds vs cs true;
      fates = first_fates bounds vs cs true (λ m. known);
      room = first_room bounds vs cs true;
      caused = (let u : Tale = record (learned first_tale vs cs) { ceased = true } in marked_caused bounds u 0 w vs cs mark (why_caused bounds u 0 w why.Take is (refl, does)));
      lacked = λ m. absurd (not_both false refl m);
      stop = λ e. known;
    }

-- What is known of a tale.

module _ (bounds : Bounds) (t : Tale) (i : IsTale bounds t) where
  outer_by : (h : How) → t.outer ≡ Some h → h ≢ how.Done → IsKnown t 0
  outer_by how.Halted e n = let q = i.fates.outer_halted e in inr (q.0, q.2)
  outer_by (how.Fault c) e n = i.fates.outer_fault c e
  outer_by how.Memory e n = i.stop (memory_ceased bounds t i (i.fates.outer_memory e))
  outer_by how.Done e n = absurd (n refl)

  -- where the outer stream was stopped, the code for all streams is known
  pub outer_known : IsOuterStopped t → IsKnown t 0
  outer_known s = outer_by s.0 s.1 s.2

  -- more is set and found set
  pub learns : (vs cs : List Interruption) → AreCaused bounds t vs → IsTale bounds (learned t vs cs)
  learns vs cs new =
      let u : Tale = learned t vs cs in
      let g : Grows t u = record { begun = λ k b. b; came = λ k h c. c; seen = λ x m. among_left cs m; obeyed = λ j w m. m; known = known_more t vs cs; memory = λ e. e; pulled = λ j m. m } in
      record {
        frames = frames_stay bounds t i.frames t.fates t.outer (t.set ++ vs) (t.seen ++ cs) t.ceased t.memory (λ e. (e, (i.frames.quiet e).2)) i.frames.ceased (λ e. e) (λ k b. b) (λ h k b. b);
        ends = ends_kept bounds t u g NoEnd (none_fresh bounds t u) i.ends (λ k h m. inl m) (λ k h m. inl m) i.ends.apart;
        fates = fates_stay bounds t u g i.fates refl refl;
        room = room_passes bounds t u g (stays bounds t t.fates t.outer (t.set ++ vs) (t.seen ++ cs) t.ceased t.memory (omega arith) (λ k j l b e. e)) i.room;
        caused = caused_more bounds t u g vs (λ m. m) (λ c. c) (λ c e. e) i.caused (λ c w m. cause_grows bounds t u g (λ z. z) (λ z. z) (λ d e. e) c w.why (new c w m));
        lacked = λ m. lacked_grows bounds t u g (λ e. e) (λ k e. e) (lacks_still bounds t u refl refl refl) (i.lacked m);
        stop = λ e. known_more t vs cs 0 (i.stop e);
      }

  cause_begun : (c : ℕ) (w : Why) → IsCaused bounds t c w → IsCaused bounds (fated t Begun) c w
  cause_begun c why.Take h = h
  cause_begun c why.Until h = h
  cause_begun c why.Sink h = h
  cause_begun c why.Memory h = h
  cause_begun c why.Fault h = h

  -- a stream is begun
  module _ (may : MayBegin bounds t) where
    begun_frames : KeepsFrames bounds (fated t Begun)
    begun_frames = frames_stay bounds t i.frames (t.fates ++ Begun ∷ []) t.outer t.set t.seen t.ceased t.memory (λ e. (e, (i.frames.quiet e).2)) i.frames.ceased (λ e. e) (λ k b. at_left t.fates (Begun ∷ []) k Begun b)
        (λ h k b. absurd (may.run (i.stop (⊎_elim (λ m. i.frames.met m) (λ c. cut_ceased bounds t i c) h))))

    begun_ends : KeepsEnds bounds (fated t Begun)
    begun_ends = record {
      halted = λ k c. let q = i.ends.halted k c in (q.0, q.1, ⊎_elim (λ f. inl f) (λ f. absurd (may.run (inr (q.0, f.0)))) q.2);
      fault = λ k c m. absurd (may.run (i.ends.fault k c m).0);
      memory = λ k m. absurd (may.run (i.stop (memory_ceased bounds t i (i.ends.memory k m).0)));
      until = λ j k c is. let q = i.ends.until j k c is in (q.0, λ w b. ⊎_elim (λ o. q.1 w o) (λ e. absurd (may.own (subst (λ z. IsKnown t (suc z)) e.0 q.0))) (at_snoc t.fates Begun k Begun b));
      late = λ k h m. absurd (may.run (i.stop (late_ceased bounds t i _ m)));
      in_turn = λ w k b. ⊎_elim
          (λ o. inl (may.alone w k o))
          (λ e. inr (λ j d. ⊎_elim (λ o. let l = at_below t.fates j Begun o in omega (arith, l, e.0)) (λ o. omega (arith, o.0, e.0)) (at_snoc t.fates Begun j Begun d)))
          (at_snoc t.fates Begun k Begun b);
      once = i.ends.once;
      apart = i.ends.apart;
    }

    begun_fates : KeepsFates bounds (fated t Begun)
    begun_fates = record {
      skipped = λ k e. ⊎_elim
          (λ o. ⊎_elim (λ f. inl f) (λ f. absurd (may.run (⊎_elim (λ a. inr a) (λ s. outer_known s) f.0))) (i.fates.skipped k o))
          (λ n. absurd (let q : Skipped ≡ Begun = n.1 in cc))
          (at_snoc t.fates Begun k Skipped e);
      unmade = λ k e. ⊎_elim
          (λ o. absurd (may.run (i.stop (memory_ceased bounds t i (i.fates.unmade k o).0))))
          (λ n. absurd (let q : Unmade ≡ Begun = n.1 in cc))
          (at_snoc t.fates Begun k Unmade e);
      nobody = λ m. absurd (may.run (i.fates.nobody m).0);
      outer_halted = i.fates.outer_halted;
      outer_fault = i.fates.outer_fault;
      outer_memory = i.fates.outer_memory;
    }

    pub begins : IsTale bounds (fated t Begun)
    begins = record { frames = begun_frames; ends = begun_ends; fates = begun_fates; room = begun_room bounds t i may; caused = λ c w m. cause_begun c w.why (i.caused c w m); lacked = λ m. absurd (may.run (i.stop (memory_ceased bounds t i m))); stop = i.stop }

  -- a stream isn't begun
  module _ (f : Fate) (other : Begun ≡ f → ⊥) where
    back : (k : ℕ) → IsBegun (fated t f) k → IsBegun t k
    back k b = ⊎_elim (λ o. o) (λ n. absurd (other n.1)) (at_snoc t.fates f k Begun b)

    above : (k : ℕ) → k ≡ length t.fates → IsLastTurn (fated t f) k
    above k is j h = let l = turn_next bounds t i j (⊎_elim (λ b. inl (back j b)) (λ m. inr m) h) in omega (arith, l, is)

    longer : length t.fates ≤ length (t.fates ++ f ∷ [])
    longer = let a = length-append t.fates (f ∷ []) in omega (arith, a)

  not_skipped : Begun ≡ Skipped → ⊥
  not_skipped e = cc

  not_unmade : Begun ≡ Unmade → ⊥
  not_unmade e = cc

  come_below : (j : ℕ) → HasCome t j → j ≤ length t.fates
  come_below j c = let l = at_below t.fates j Begun (i.frames.ours (end_of j c.0) c.1).0 in omega (arith, l)

  pub skips : IsFoundSet t 0 ⊎ IsOwnCode bounds t (length t.fates) ⊎ IsOuterStopped t → IsTale bounds (fated t Skipped)
  skips cause =
      let u : Tale = fated t Skipped in
      let g : Grows t u = record { begun = back Skipped not_skipped; came = λ k h c. c; seen = λ x m. m; obeyed = λ j w m. m; known = λ c h. h; memory = λ e. e; pulled = λ j m. m } in
      record {
        frames = frames_stay bounds t i.frames (t.fates ++ Skipped ∷ []) t.outer t.set t.seen t.ceased t.memory (λ e. (e, (i.frames.quiet e).2)) i.frames.ceased (λ e. e) (λ k b. at_left t.fates (Skipped ∷ []) k Begun b) (λ h k b. back Skipped not_skipped k b);
        ends = ends_kept bounds t u g NoEnd (none_fresh bounds t u) i.ends (λ k h m. inl m) (λ k h m. inl m) i.ends.apart;
        fates = fates_kept bounds t u g i.fates
            (λ k e. ⊎_elim
            (λ o. inl o)
            (λ n. inr (⊎_elim
            (λ h. inr (inl h, above Skipped not_skipped k n.0))
            (λ z. ⊎_elim (λ h. inl (own_grows bounds t u g k (subst (λ y. IsFoundSet t (suc y) × IsEndedInTurn bounds t y) (sym n.0) (own_told bounds t (length t.fates) i.caused (λ w. come_below) h)))) (λ s. inr (inr s, above Skipped not_skipped k n.0)) z)
            cause))
            (at_snoc t.fates Skipped k Skipped e))
            (λ k e. ⊎_elim (λ o. inl o) (λ n. absurd (let q : Unmade ≡ Skipped = n.1 in cc)) (at_snoc t.fates Skipped k Unmade e))
            (λ s. s) i.fates.outer_halted i.fates.outer_fault i.fates.outer_memory;
        room = room_passes bounds t u g (stays bounds t (t.fates ++ Skipped ∷ []) t.outer t.set t.seen t.ceased t.memory (longer Skipped not_skipped) (λ k j l b e. ⊎_elim (λ o. o) (λ n. absurd (let q : Unmade ≡ Skipped = n.1 in cc)) (at_snoc t.fates Skipped j Unmade e))) i.room;
        caused = λ c w m. cause_grows bounds t u g (λ z. z) (λ z. z) (λ d e. e) c w.why (i.caused c w m);
        lacked = λ m. lacked_grows bounds t u g (λ e. e) (λ k e. at_left t.fates (Skipped ∷ []) k Unmade e) (lacks_still bounds t u refl refl refl) (i.lacked m);
        stop = i.stop;
      }

  pub wants : {w : Stop} (vs cs : List Interruption) → w.why ≡ why.Memory → Marks 0 w vs cs → IsTale bounds (learned (unmade t) vs cs)
  wants {w = w} vs cs is mark =
      let u : Tale = learned (unmade t) vs cs in
      let g : Grows t u = record { begun = back Unmade not_unmade; came = λ k h c. c; seen = λ x m. among_left cs m; obeyed = λ j w m. m; known = known_more t vs cs; memory = λ e. refl; pulled = λ j m. m } in
      record {
        frames = frames_stay bounds t i.frames (t.fates ++ Unmade ∷ []) t.outer (t.set ++ vs) (t.seen ++ cs) true true (λ e. absurd (not_both true e refl)) (λ e. inr (inr refl)) (λ e. refl) (λ k b. at_left t.fates (Unmade ∷ []) k Begun b) (λ h k b. back Unmade not_unmade k b);
        ends = ends_kept bounds t u g NoEnd (none_fresh bounds t u) i.ends (λ k h m. inl m) (λ k h m. inl m) i.ends.apart;
        fates = fates_kept bounds t u g i.fates
            (λ k e. ⊎_elim (λ o. inl o) (λ n. absurd (let q : Skipped ≡ Unmade = n.1 in cc)) (at_snoc t.fates Unmade k Skipped e))
            (λ k e. ⊎_elim (λ o. inl o) (λ n. inr (refl, above Unmade not_unmade k n.0)) (at_snoc t.fates Unmade k Unmade e))
            (λ s. s) (λ e. outer_told_grows bounds t u g (i.fates.outer_halted e)) (λ c e. g.known 0 (i.fates.outer_fault c e)) (λ e. refl);
        room = room_passes bounds t u g (stays bounds t (t.fates ++ Unmade ∷ []) t.outer (t.set ++ vs) (t.seen ++ cs) true true (longer Unmade not_unmade) (λ k j l b e. ⊎_elim (λ o. o) (λ n. absurd (let m = turn_next bounds t i k b in let q : j ≡ length t.fates = n.0 in omega (arith, m, q, l))) (at_snoc t.fates Unmade j Unmade e))) i.room;
        caused = caused_more bounds t u g vs (λ m. m) (λ c. c) (λ c e. e) i.caused (marked_caused bounds u 0 w vs cs mark (why_caused bounds u 0 w why.Memory is (refl, refl)));
        lacked = λ m. inr (inr (inl (length t.fates, at_last t.fates Unmade)));
        stop = λ e. marked_known t 0 w vs cs mark;
      }

  -- the outer stream ends
  pub outer_ends : (h : How) (vs cs : List Interruption) → t.outer ≡ None → TellsOuter bounds (learned (outer_ended t h) vs cs) h vs → IsTale bounds (learned (outer_ended t h) vs cs)
  outer_ends h vs cs none tells =
      let u : Tale = learned (outer_ended t h) vs cs in
      let g : Grows t u = record { begun = λ k b. b; came = λ k j c. c; seen = λ x m. among_left cs m; obeyed = λ j w m. m; known = known_more t vs cs; memory = or_left t.memory (is_memory h); pulled = λ j m. m } in
      record {
        frames = frames_stay bounds t i.frames t.fates (Some h) (t.set ++ vs) (t.seen ++ cs) (t.ceased || is_memory h) (t.memory || is_memory h)
            (λ e. let q = or_false t.ceased (is_memory h) e in (q.0, ap (λ b. b || is_memory h) (i.frames.quiet q.0).2 ∙ q.1))
            (λ e. ⊎_elim
            (λ c. ⊎_elim (λ z. inl z) (λ z. ⊎_elim (λ y. inr (inl y)) (λ y. inr (inr (or_left t.memory (is_memory h) y))) z) (i.frames.ceased c))
            (λ y. inr (inr (or_right t.memory (is_memory h) y)))
            (either t.ceased (is_memory h) e))
            (or_left t.ceased (is_memory h)) (λ k b. b) (λ z k b. b);
        ends = ends_kept bounds t u g NoEnd (none_fresh bounds t u) i.ends (λ k j m. inl m) (λ k j m. inl m) i.ends.apart;
        fates = fates_kept bounds t u g i.fates (λ k e. inl e) (λ k e. inl e) (λ s. absurd (none_some (sym none ∙ s.1)))
            (λ e. tells.halted (some_is h how.Halted e)) (λ c e. tells.fault c (some_is h (how.Fault c) e)) (λ e. or_right t.memory (is_memory h) (ap is_memory (some_is h how.Memory e)));
        room = room_passes bounds t u g (stays bounds t t.fates (Some h) (t.set ++ vs) (t.seen ++ cs) (t.ceased || is_memory h) (t.memory || is_memory h) (omega arith) (λ k j l b e. e)) i.room;
        caused = caused_more bounds t u g vs (λ m. m) (λ c. c) (λ c e. absurd (none_some (sym none ∙ e))) i.caused tells.caused;
        lacked = λ e. ⊎_elim (λ m. lacked_grows bounds t u g (λ o. absurd (none_some (sym none ∙ o))) (λ k f. f) (lacks_still bounds t u refl refl refl) (i.lacked m)) (λ m. inr (inl (ap (λ q. Some q) (memory_is h m)))) (either t.memory (is_memory h) e);
        stop = λ e. ⊎_elim (λ c. known_more t vs cs 0 (i.stop c)) (λ m. tells.memory (memory_is h m)) (either t.ceased (is_memory h) e);
      }
