-- What keeps a tale where a load is received.
use Rattle.std.proofs.Common.{◌≡◌, ◌≢◌, ◌⊎◌, ℕ, suc, ◌<◌, true, false, List, [], ◌∷◌, ◌++◌, length, Some, inl, inr, refl, sym, ap, ◌∙◌, subst, ⊎_elim}
use Rattle.chunk_core.specs.Lists.{IsAmong}
use Rattle.chunk_core.proofs.Members.{among_cons, among_left, among_nil}
use Rattle.chunk_core.specs.declared.code.How.{How}
use Rattle.interrupt_ctx.specs.declared.view.Interruption.{Interruption}
use Rattle.interrupt_ctx.specs.declared.why.Stop.{Stop}
use Rattle.interrupt_ctx.specs.declared.why.Why.TheVariants as why
use Rattle.join_tale.specs.Bounds.{Bounds}
use Rattle.join_tale.specs.Keeping.{IsLast, IsTale}
use Rattle.join_tale.specs.Steps.{Marks, dropped, failed, lacked, learned, written}
use Rattle.join_tale.specs.Tales.{Came, HasMet, IsOpen, Tale, end_of, frames_of, load_of}
use Rattle.join_tale.proofs.Framing.{frames_drop, frames_fail, frames_lack, frames_write, not_met, open_last}
use Rattle.join_tale.proofs.Growing.{Grows, NoEnd, cause_grows, caused_more, ends_kept, fates_stay, known_more, lacked_grows, lacks_more, marked_caused, marked_known, none_fresh, why_caused}
use Rattle.join_tale.proofs.Parts.{end_before_load, more_frames, no_end}
use Rattle.join_tale.proofs.Places.{not_both}
use Rattle.join_tale.proofs.Room.{drops_pass, fails_pass, lacks_pass, room_passes, writes_pass}

module _ (bounds : Bounds) (t : Tale) (k : ℕ) (x : List ℕ) (i : IsTale bounds t) (o : IsOpen t k) (full : 0 < length x) where
  last : IsLast bounds t k
  last = open_last bounds t k i.ends o

  unmet : t.ceased ≡ false → HasMet bounds t → ⊥
  unmet c m = not_met bounds t i.frames c m

  came_front : (j : ℕ) (h : How) → Came t j h → IsAmong (end_of j h) (t.front ++ load_of k x ∷ []) ⊎ IsAmong (end_of j h) t.late
  came_front j h m = ⊎_elim (λ a. inl (among_left (load_of k x ∷ []) a)) (λ a. inr a) m

  unwanting : t.ceased ≡ false → t.memory ≡ true → ⊥
  unwanting c m = not_both t.memory (i.frames.quiet c).2 m

  pub writes : t.ceased ≡ false → bounds.most ≢ Some (suc (length (frames_of t.front))) → IsTale bounds (written t k x)
  writes c doesnt =
      let u : Tale = written t k x in
      let g : Grows t u = record { begun = λ j b. b; came = came_front; seen = λ x m. m; obeyed = λ j w m. m; known = λ d f. f; memory = λ e. e; pulled = λ j m. m } in
      record {
        frames = frames_write bounds t i.frames k x o last full t.set t.seen t.ceased c (λ e. absurd (not_both t.ceased c e)) (λ m. absurd (doesnt m));
        ends = ends_kept bounds t u g NoEnd (none_fresh bounds t u) i.ends (λ j h m. inl (end_before_load j k h x t.front m)) (λ j h m. inl m) (λ j h q m n. i.ends.apart j h q (end_before_load j k h x t.front m) n);
        fates = fates_stay bounds t u g i.fates refl refl;
        room = room_passes bounds t u g (writes_pass bounds t i.frames k o x t.set t.seen t.ceased c) i.room;
        caused = λ d w m. cause_grows bounds t u g (λ z. absurd (unmet c z)) (λ z. z) (λ a e. e) d w.why (i.caused d w m);
        lacked = λ m. absurd (unwanting c m);
        stop = i.stop;
      }

  pub meets : {w : Stop} (vs cs : List Interruption) → w.why ≡ why.Take → Marks 0 w vs cs → t.ceased ≡ false → bounds.most ≡ Some (suc (length (frames_of t.front))) → IsTale bounds (record (learned (written t k x) vs cs) { ceased = true })
  meets {w = w} vs cs is mark c does =
      let u : Tale = record (learned (written t k x) vs cs) { ceased = true } in
      let g : Grows t u = record { begun = λ j b. b; came = came_front; seen = λ x m. among_left cs m; obeyed = λ j w m. m; known = known_more t vs cs; memory = λ e. e; pulled = λ j m. m } in
      record {
        frames = frames_write bounds t i.frames k x o last full (t.set ++ vs) (t.seen ++ cs) true c (λ e. does) (λ m. refl);
        ends = ends_kept bounds t u g NoEnd (none_fresh bounds t u) i.ends (λ j h m. inl (end_before_load j k h x t.front m)) (λ j h m. inl m) (λ j h q m n. i.ends.apart j h q (end_before_load j k h x t.front m) n);
        fates = fates_stay bounds t u g i.fates refl refl;
        room = room_passes bounds t u g (writes_pass bounds t i.frames k o x (t.set ++ vs) (t.seen ++ cs) true c) i.room;
        caused = caused_more bounds t u g vs (λ z. absurd (unmet c z)) (λ z. z) (λ a e. e) i.caused (marked_caused bounds u 0 w vs cs mark (why_caused bounds u 0 w why.Take is (refl, does ∙ ap Some (sym (more_frames t.front k x)))));
        lacked = λ m. absurd (unwanting c m);
        stop = λ e. marked_known t 0 w vs cs mark;
      }

  -- the load is the first that came too late
  first_late : t.ceased ≡ false → (j : ℕ) (h : How) → Came t j h → IsAmong (end_of j h) t.front ⊎ IsAmong (end_of j h) (load_of k x ∷ [])
  first_late c j h m = ⊎_elim (λ a. inl a) (λ a. absurd (among_nil (subst (λ l. IsAmong (end_of j h) l) (i.frames.quiet c).0 a))) m

  no_end_late : (j : ℕ) (h : How) → IsAmong (end_of j h) (load_of k x ∷ []) → ⊥
  no_end_late j h m = ⊎_elim (λ e. no_end j k h x e) (λ n. among_nil n) (among_cons m)

  pub fails : {w : Stop} (vs cs : List Interruption) → w.why ≡ why.Sink → Marks 0 w vs cs → t.ceased ≡ false → IsTale bounds (learned (failed t k x) vs cs)
  fails {w = w} vs cs is mark c =
      let u : Tale = learned (failed t k x) vs cs in
      let g : Grows t u = record { begun = λ j b. b; came = first_late c; seen = λ x m. among_left cs m; obeyed = λ j w m. m; known = known_more t vs cs; memory = λ e. e; pulled = λ j m. m } in
      record {
        frames = frames_fail bounds t i.frames k x o last full (t.set ++ vs) (t.seen ++ cs) c;
        ends = ends_kept bounds t u g NoEnd (none_fresh bounds t u) i.ends (λ j h m. inl m) (λ j h m. absurd (no_end_late j h m)) (λ j h q m n. no_end_late j q n);
        fates = fates_stay bounds t u g i.fates refl refl;
        room = room_passes bounds t u g (fails_pass bounds t i.frames k o x (t.set ++ vs) (t.seen ++ cs) c) i.room;
        caused = caused_more bounds t u g vs (λ z. z) (λ z. refl) (λ a e. e) i.caused (marked_caused bounds u 0 w vs cs mark (why_caused bounds u 0 w why.Sink is (refl, refl)));
        lacked = λ m. absurd (unwanting c m);
        stop = λ e. marked_known t 0 w vs cs mark;
      }

  pub lacks : {w : Stop} (vs cs : List Interruption) → w.why ≡ why.Memory → Marks 0 w vs cs → t.ceased ≡ false → IsTale bounds (learned (lacked t k x) vs cs)
  lacks {w = w} vs cs is mark c =
      let u : Tale = learned (lacked t k x) vs cs in
      let g : Grows t u = record { begun = λ j b. b; came = first_late c; seen = λ x m. among_left cs m; obeyed = λ j w m. m; known = known_more t vs cs; memory = λ e. refl; pulled = λ j m. m } in
      record {
        frames = frames_lack bounds t i.frames k x o last full (t.set ++ vs) (t.seen ++ cs) c;
        ends = ends_kept bounds t u g NoEnd (none_fresh bounds t u) i.ends (λ j h m. inl m) (λ j h m. absurd (no_end_late j h m)) (λ j h q m n. no_end_late j q n);
        fates = fates_stay bounds t u g i.fates refl refl;
        room = room_passes bounds t u g (lacks_pass bounds t i.frames k o x (t.set ++ vs) (t.seen ++ cs)) i.room;
        caused = caused_more bounds t u g vs (λ z. z) (λ z. z) (λ a e. e) i.caused (marked_caused bounds u 0 w vs cs mark (why_caused bounds u 0 w why.Memory is (refl, refl)));
        lacked = λ m. inr (inr (inr (k, record { load = x; others = []; late = refl; uncut = (i.frames.quiet c).1; unmet = unmet c })));
        stop = λ e. marked_known t 0 w vs cs mark;
      }

  pub drops : t.ceased ≡ true → IsTale bounds (dropped t k x)
  drops c =
      let u : Tale = dropped t k x in
      let g : Grows t u = record { begun = λ j b. b; came = λ j h m. ⊎_elim (λ a. inl a) (λ a. inr (among_left (load_of k x ∷ []) a)) m; seen = λ x m. m; obeyed = λ j w m. m; known = λ d f. f; memory = λ e. e; pulled = λ j m. m } in
      record {
        frames = frames_drop bounds t i.frames k x o last full c;
        ends = ends_kept bounds t u g NoEnd (none_fresh bounds t u) i.ends (λ j h m. inl m) (λ j h m. inl (end_before_load j k h x t.late m)) (λ j h q m n. i.ends.apart j h q m (end_before_load j k q x t.late n));
        fates = fates_stay bounds t u g i.fates refl refl;
        room = room_passes bounds t u g (drops_pass bounds t i.frames k o x) i.room;
        caused = λ d w m. cause_grows bounds t u g (λ z. z) (λ z. z) (λ a e. e) d w.why (i.caused d w m);
        lacked = λ m. lacked_grows bounds t u g (λ e. e) (λ j e. e) (lacks_more bounds t u (load_of k x ∷ []) refl refl refl) (i.lacked m);
        stop = i.stop;
      }
