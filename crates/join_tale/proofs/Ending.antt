-- What keeps a tale where an end is received.
use Rattle.std.proofs.Common.{◌≡◌, ◌⊎◌, ℕ, true, false, ◌||◌, List, [], ◌∷◌, ◌++◌, Some, inl, inr, refl, sym, ap, ◌∙◌, subst, ⊎_elim}
use Rattle.chunk_core.specs.Lists.{IsAmong}
use Rattle.chunk_core.proofs.Bools.{either, or_left, or_right}
use Rattle.chunk_core.proofs.Members.{among_last, among_left, among_nil}
use Rattle.chunk_core.specs.declared.code.How.{How}
use Rattle.chunk_core.specs.declared.code.How.TheVariants as how
use Rattle.interrupt_ctx.specs.declared.view.Interruption.{Interruption}
use Rattle.run_rules.specs.Facts.{is_memory}
use Rattle.join_tale.specs.Bounds.{Bounds}
use Rattle.join_tale.specs.Keeping.{IsLast, IsTale, IsToldToHalt, KeepsFrames, Obeys}
use Rattle.join_tale.specs.Steps.{TellsEnd, ended, ended_late, learned}
use Rattle.join_tale.specs.Tales.{AreCaused, HasCome, IsBegun, IsOpen, Message, Tale, end_of}
use Rattle.join_tale.proofs.Framing.{frames_end_front, frames_end_late, not_met, open_last}
use Rattle.join_tale.proofs.Growing.{AreFresh, Grows, caused_more, ends_kept, fates_stay, known_more, lacked_grows, lacks_more, own_told}
use Rattle.join_tale.proofs.Parts.{end_before_end}
use Rattle.join_tale.proofs.Places.{not_both}
use Rattle.join_tale.proofs.Room.{ends_late_pass, ends_pass, room_passes}
use Rattle.join_tale.proofs.Steps.{memory_is}

module _ (bounds : Bounds) (t : Tale) (k : ℕ) (h : How) (vs cs : List Interruption) (i : IsTale bounds t) (o : IsOpen t k) where
  last : IsLast bounds t k
  last = open_last bounds t k i.ends o

  -- this end alone comes
  abbrev New : ℕ → How → Type 0
  New j g = (j ≡ k) × (g ≡ h)

  new_fresh : (u : Tale) → TellsEnd bounds u k h vs → (Obeys bounds u k → IsToldToHalt bounds u k) → (h ≡ how.Memory → u.memory ≡ true) → AreFresh bounds t u New
  new_fresh u tells obeys memory = record {
    halted = λ j n. subst (λ z. IsToldToHalt bounds u z) (sym n.0) (obeys (tells.halted (sym n.1)));
    fault = λ j c n. tells.fault c (sym n.1);
    memory = λ j n. memory (sym n.1);
    until = λ j m g n is. tells.until m (subst (λ z. bounds.until m ≡ Some z) n.0 is);
    last = λ j g n. subst (λ z. IsLast bounds t z) (sym n.0) last;
    alone = λ j g n c. o.1 (subst (λ z. HasCome t z) n.0 c);
    one = λ j g q n m. n.1 ∙ sym m.1;
  }

  -- all that have come were begun, and so aren't above k
  told_so : (u : Tale) → AreCaused bounds u u.set → ((m : Message) → IsAmong m u.front ⊎ IsAmong m u.late → IsBegun t m.stream) → IsLast bounds u k → Obeys bounds u k → IsToldToHalt bounds u k
  told_so u caused ours above o = (o.0, o.1, ⊎_elim (λ m. inr (m, above)) (λ m. inl (m.0, (own_told bounds u k caused (λ w j c. last w j (ours (end_of j c.0) c.1)) ((o.0, m.0), m.1)).1)) o.2)

  pub ends : t.ceased ≡ false → TellsEnd bounds (learned (ended t k h) vs cs) k h vs → IsTale bounds (learned (ended t k h) vs cs)
  ends c tells =
      let u : Tale = learned (ended t k h) vs cs in
      let empty : t.late ≡ [] = (i.frames.quiet c).0 in
      let g : Grows t u = record {
        begun = λ j b. b;
        came = λ j q m. ⊎_elim (λ a. inl (among_left (end_of k h ∷ []) a)) (λ a. inr a) m;
        seen = λ x m. among_left cs m;
        obeyed = λ j w m. m;
        known = known_more t vs cs;
        memory = λ e. absurd (not_both t.memory (i.frames.quiet c).2 e);
        pulled = λ j m. m;
      } in
      let frames : KeepsFrames bounds u = frames_end_front bounds t i.frames k h o (t.set ++ vs) (t.seen ++ cs) (is_memory h) c in
      let caused : AreCaused bounds u u.set = caused_more bounds t u g vs (λ m. absurd (not_met bounds t i.frames c m)) (λ z. z) (λ a e. e) i.caused tells.caused in
      record {
        frames = frames;
        ends = ends_kept bounds t u g New (new_fresh u tells (told_so u caused (λ m n. (frames.ours m n).0) last) (λ e. ap is_memory e)) i.ends (λ j q m. end_before_end j k q h t.front m) (λ j q m. inl m) (λ j q r m n. among_nil (subst (λ l. IsAmong (end_of j r) l) empty n));
        fates = fates_stay bounds t u g i.fates refl refl;
        room = room_passes bounds t u g (ends_pass bounds t i.frames k o h (t.set ++ vs) (t.seen ++ cs) (is_memory h)) i.room;
        caused = caused;
        lacked = λ e. inl (k, inl (subst (λ z. IsAmong (end_of k z) u.front) (memory_is h e) (among_last t.front (end_of k h))));
        stop = λ e. tells.memory (memory_is h e);
      }

  pub ends_late : t.ceased ≡ true → TellsEnd bounds (learned (ended_late t k h) vs cs) k h vs → IsTale bounds (learned (ended_late t k h) vs cs)
  ends_late c tells =
      let u : Tale = learned (ended_late t k h) vs cs in
      let g : Grows t u = record {
        begun = λ j b. b;
        came = λ j q m. ⊎_elim (λ a. inl a) (λ a. inr (among_left (end_of k h ∷ []) a)) m;
        seen = λ x m. among_left cs m;
        obeyed = λ j w m. m;
        known = known_more t vs cs;
        memory = or_left t.memory (is_memory h);
        pulled = λ j m. m;
      } in
      let frames : KeepsFrames bounds u = frames_end_late bounds t i.frames k h o (t.set ++ vs) (t.seen ++ cs) (t.memory || is_memory h) c (or_left t.memory (is_memory h)) in
      let caused : AreCaused bounds u u.set = caused_more bounds t u g vs (λ z. z) (λ z. z) (λ a e. e) i.caused tells.caused in
      record {
        frames = frames;
        ends = ends_kept bounds t u g New (new_fresh u tells (told_so u caused (λ m n. (frames.ours m n).0) last) (λ e. or_right t.memory (is_memory h) (ap is_memory e))) i.ends (λ j q m. inl m) (λ j q m. end_before_end j k q h t.late m)
            (λ j q r m n. ⊎_elim (λ a. i.ends.apart j q r m a) (λ e. o.1 (subst (λ z. HasCome t z) e.0 (q, inl m))) (end_before_end j k r h t.late n));
        fates = fates_stay bounds t u g i.fates refl refl;
        room = room_passes bounds t u g (ends_late_pass bounds t i.frames k o h (t.set ++ vs) (t.seen ++ cs) (t.memory || is_memory h)) i.room;
        caused = caused;
        lacked = λ e. ⊎_elim
            (λ m. lacked_grows bounds t u g (λ z. z) (λ j z. z) (lacks_more bounds t u (end_of k h ∷ []) refl refl refl) (i.lacked m))
            (λ m. inl (k, inr (subst (λ z. IsAmong (end_of k z) u.late) (memory_is h m) (among_last t.late (end_of k h)))))
            (either t.memory (is_memory h) e);
        stop = λ e. known_more t vs cs 0 (i.stop c);
      }
