-- Each stream begins in room that was there.
use Rattle.std.proofs.Common.{◌≡◌, ◌⊎◌, ℕ, suc, ◌<◌, ◌≤◌, Bool, true, false, List, [], ◌∷◌, ◌++◌, length, Option, Some, None, is_some, inl, inr, refl, sym, ap, ◌∙◌, subst, ⊎_elim, arith, append-nil, length-append}
use Rattle.std.proofs.lemmas.Bool.{cases_eq}
use Rattle.std.specs.List.{last_or}
use Rattle.chunk_core.specs.Lists.{IsAmong}
use Rattle.chunk_core.specs.Lists.IsAmong.{here}
use Rattle.chunk_core.specs.Texts.{Frame}
use Rattle.chunk_core.proofs.Cuts.{cut}
use Rattle.chunk_core.proofs.Filters.{among_append}
use Rattle.chunk_core.proofs.Members.{among_cons, among_mid, among_nil, among_snoc}
use Rattle.chunk_core.specs.declared.code.How.{How}
use Rattle.chunk_core.specs.declared.code.How.TheVariants as how
use Rattle.interrupt_ctx.specs.declared.view.Interruption.{Interruption}
use Rattle.run_rules.specs.Ends.{PrintsBehind}
use Rattle.run_rules.specs.Facts.{at}
use Rattle.join_tale.specs.Bounds.{Bounds}
use Rattle.join_tale.specs.Keeping.{HadRoom, HadTurn, HasEndedAll, HasRoom, IsTale, KeepsFrames, KeepsRoom, PrintedLast, WasOpen}
use Rattle.join_tale.specs.Steps.{MayBegin, fated, pulled}
use Rattle.join_tale.specs.Tales.{Came, Fate, HasCome, IsBegun, IsKnown, IsOpen, Tale, end_of, frames_begun, frames_of, load_of}
use Rattle.join_tale.specs.Tales.Fate.{Begun, Unmade}
use Rattle.join_tale.proofs.Ceasing.{cut_ceased, late_ceased, memory_ceased}
use Rattle.join_tale.proofs.Growing.{Grows, own_grows, turn_grows}
use Rattle.join_tale.proofs.Parts.{end_before_end, end_before_load, frame_came, frame_of, frames_end, frames_load, last_written, no_end}
use Rattle.join_tale.proofs.Places.{at_below, at_snoc, last_snoc, some_is}

-- Frames behind others.

no_place : (A B : List Frame) (g : Frame) → [] ≡ A ++ g ∷ B → ⊥
no_place [] B g e = cc
no_place (a ∷ A) B g e = cc

-- where one stands last behind a list, it stands last behind each place in it
split_last : (F A B : List Frame) (x g : Frame) → F ++ x ∷ [] ≡ A ++ g ∷ B → (B ≡ []) ⊎ ((R : List Frame) × (F ≡ A ++ g ∷ R) × (B ≡ R ++ x ∷ []))
split_last [] [] B x g e = inl (sym (cut x [] B g e).1)
split_last [] (a ∷ A) B x g e = absurd (no_place A B g (cut x [] (A ++ g ∷ B) a e).1)
split_last (y ∷ F) [] B x g e = let c = cut y (F ++ x ∷ []) B g e in inr (F, ap (λ z. z ∷ F) c.0, sym c.1)
split_last (y ∷ F) (a ∷ A) B x g e =
    let c = cut y (F ++ x ∷ []) (A ++ g ∷ B) a e in
    ⊎_elim (λ n. inl n) (λ r. inr (r.0, (ap (λ z. z ∷ F) c.0 ∙ ap (λ l. a ∷ l) r.1), r.2)) (split_last F A B x g c.1)

-- a frame more stands behind the others
printed_snoc : (F : List Frame) (x : Frame) (k i : ℕ) → PrintsBehind (F ++ x ∷ []) k i → PrintsBehind F k i ⊎ (x.stream ≡ i)
printed_snoc F x k i p = ⊎_elim
    (λ n. absurd (among_nil (subst (λ l. IsAmong p.2 l) n p.6)))
    (λ r. ⊎_elim
    (λ m. inl (p.0, r.0, p.2, p.3, r.1, p.5, m, p.7))
    (λ e. inr (ap (λ (y : Frame). y.stream) (sym e) ∙ p.7))
    (among_snoc r.0 p.2 x (subst (λ l. IsAmong p.2 l) r.2 p.6)))
    (split_last F p.0 p.1 x p.3 p.4)

-- Steps.

-- what came in the step from t to u is of open streams alone
pub record Passes (bounds : Bounds) (t u : Tale) : Type 0 where
  pub printed : (k i : ℕ) → PrintsBehind (frames_begun u) k i → PrintsBehind (frames_begun t) k i ⊎ IsOpen t i
  pub came : (i : ℕ) (h : How) → Came u i h → Came t i h ⊎ IsOpen t i
  pub late : (i : ℕ) (h : How) → IsAmong (end_of i h) u.late → IsAmong (end_of i h) t.late ⊎ IsOpen t i
  pub unmade : (k i : ℕ) → i < k → HadTurn t k → at u.fates i ≡ Some Unmade → at t.fates i ≡ Some Unmade
  pub last : (i : ℕ) → PrintedLast bounds u i → PrintedLast bounds t i ⊎ IsOpen t i
  pub longer : length t.fates ≤ length u.fates
  pub room : (k : ℕ) → u.room k ≡ t.room k

module _ (bounds : Bounds) (t u : Tale) (g : Grows t u) (p : Passes bounds t u) where
  open_before : (i : ℕ) → IsOpen u i → IsOpen t i
  open_before i o = (g.begun i o.0, λ c. o.1 (c.0, g.came i c.0 c.1))

  by_end : (k i : ℕ) → HasEndedAll bounds t i ⊎ IsOpen t i → WasOpen bounds t k i
  by_end k i h = ⊎_elim (λ e. inr (inl e)) (λ o. inl o) h

  ended_before : (k i : ℕ) → i < k → HadTurn t k → HasEndedAll bounds u i → HasEndedAll bounds t i ⊎ IsOpen t i
  ended_before k i l b h = ⊎_elim
      (λ f. ⊎_elim (λ c. inl (inl (f.0, c))) (λ o. inr o) (p.came i (how.Fault f.0) f.1))
      (λ x. ⊎_elim
      (λ m. ⊎_elim (λ c. inl (inr (inl c))) (λ o. inr o) (p.came i how.Memory m))
      (λ y. ⊎_elim
      (λ s. ⊎_elim (λ c. inl (inr (inr (inl (c, λ f. s.1 (own_grows bounds t u g i f)))))) (λ o. inr o) (p.came i how.Halted s.0))
      (λ z. ⊎_elim
      (λ m. ⊎_elim (λ c. inl (inr (inr (inr (inl (m.0, c)))))) (λ o. inr o) (p.late i m.0 m.1))
      (λ e. inl (inr (inr (inr (inr (p.unmade k i l b e))))))
      z)
      y)
      x)
      h

  outlasts_before : (k i : ℕ) → IsBegun u k × (PrintsBehind (frames_begun u) k i ⊎ ((bounds.until k ≡ Some i) × HasCome u i)) → WasOpen bounds t k i
  outlasts_before k i w =
      let b = g.begun k w.0 in
      ⊎_elim
      (λ q. ⊎_elim (λ o. inr (inr (inr (b, inl o)))) (λ o. inl o) (p.printed k i q))
      (λ q. ⊎_elim (λ c. inr (inr (inr (b, inr (q.0, (q.1.0, c)))))) (λ o. inl o) (p.came i q.1.0 q.1.1))
      w.1

  was_before : (k i : ℕ) → i < k → HadTurn t k → WasOpen bounds u k i → WasOpen bounds t k i
  was_before k i l h w = ⊎_elim
      (λ o. inl (open_before i o))
      (λ x. ⊎_elim
      (λ e. by_end k i (ended_before k i l h e))
      (λ y. ⊎_elim
      (λ q. ⊎_elim (λ o. inr (inr (inl o))) (λ o. inl o) (p.last i q))
      (λ q. outlasts_before k i q)
      y)
      x)
      w

  -- the room that was there is known as before
  pub room_passes : KeepsRoom bounds t → KeepsRoom bounds u
  room_passes r = record {
    had = λ k h. let c = turn_grows bounds t u g k h in let o = r.had k c in (subst (λ l. length l < bounds.max_open) (sym (p.room k)) o.0, λ i l w. subst (λ y. IsAmong i y) (sym (p.room k)) (o.1 i l (was_before k i l c w)));
    now = λ m i o.
        let n = g.pulled (length u.fates) m in
        let same : length u.fates ≡ length t.fates = (let a = r.next (length u.fates) n in let b = p.longer in omega (arith, a, b)) in
        subst (λ l. IsAmong i l) (sym (p.room (length u.fates))) (subst (λ k. IsAmong i (t.room k)) (sym same) (r.now (subst (λ k. IsAmong k t.pulled) same n) i (open_before i o)));
    next = λ k m. (let a = r.next k (g.pulled k m) in let b = p.longer in omega (arith, a, b));
  }

module _ (bounds : Bounds) (t : Tale) where
  -- nothing came
  pub stays : (fs : List Fate) (o : Option How) (xs ys : List Interruption) (b m : Bool) → length t.fates ≤ length fs → ((k i : ℕ) → i < k → HadTurn t k → at fs i ≡ Some Unmade → at t.fates i ≡ Some Unmade) → Passes bounds t (record t { fates = fs; outer = o; set = xs; seen = ys; ceased = b; memory = m })
  stays fs o xs ys b m longer unmade = record { printed = λ k i q. inl q; came = λ i h c. inl c; late = λ i h n. inl n; unmade = unmade; last = λ i q. inl q; longer = longer; room = λ k. refl }

  module _ (f : KeepsFrames bounds t) (k : ℕ) (o : IsOpen t k) where
    open_too : (i : ℕ) → k ≡ i → IsOpen t i
    open_too i e = subst (λ n. IsOpen t n) e o

    late_none : t.ceased ≡ false → (i : ℕ) (h : How) (ms : List _) → IsAmong (end_of i h) (t.late ++ ms) → IsAmong (end_of i h) ms
    late_none c i h ms m = subst (λ l. IsAmong (end_of i h) (l ++ ms)) (f.quiet c).0 m

    module _ (x : List ℕ) where
      no_end_late : (i : ℕ) (h : How) → IsAmong (end_of i h) (load_of k x ∷ []) → ⊥
      no_end_late i h m = ⊎_elim (λ e. no_end i k h x e) (λ n. among_nil n) (among_cons m)

      -- a load is written
      pub writes_pass : (xs ys : List Interruption) (b : Bool) → t.ceased ≡ false → Passes bounds t (record t { front = t.front ++ load_of k x ∷ []; set = xs; seen = ys; ceased = b })
      writes_pass xs ys b c =
          let none : t.cut ≡ None = (f.quiet c).1 in
          let shut : (l : List Frame) → l ++ elim t.cut [ Some z ↦ z ∷ [] | None ↦ [] ] ≡ l = λ l. ap (λ (q : Option Frame). l ++ elim q [ Some z ↦ z ∷ [] | None ↦ [] ]) none ∙ append-nil l in
          let more : frames_of (t.front ++ load_of k x ∷ []) ++ elim t.cut [ Some z ↦ z ∷ [] | None ↦ [] ] ≡ frames_begun t ++ frame_of k x ∷ [] = shut (frames_of (t.front ++ load_of k x ∷ [])) ∙ (frames_load t.front k x ∙ ap (λ l. l ++ frame_of k x ∷ []) (sym (shut (frames_of t.front)))) in
          record {
            printed = λ j i q. ⊎_elim (λ n. inl n) (λ e. inr (open_too i e)) (printed_snoc (frames_begun t) (frame_of k x) j i (subst (λ l. PrintsBehind l j i) more q));
            came = λ i h m. inl (⊎_elim (λ a. inl (end_before_load i k h x t.front a)) (λ a. inr a) m);
            late = λ i h m. inl m;
            unmade = λ j i l d e. e;
            last = λ i q. inr (open_too i (last_written t.front k x t.cut q.1 none q.2 ∙ q.3));
            longer = omega arith;
            room = λ j. refl;
          }

      -- the write of a load fails
      pub fails_pass : (xs ys : List Interruption) → t.ceased ≡ false → Passes bounds t (record t { late = load_of k x ∷ []; set = xs; seen = ys; ceased = true; cut = Some (frame_of k x) })
      fails_pass xs ys c =
          let shut : frames_begun t ≡ frames_of t.front = ap (λ (q : Option Frame). frames_of t.front ++ elim q [ Some z ↦ z ∷ [] | None ↦ [] ]) (f.quiet c).1 ∙ append-nil (frames_of t.front) in
          record {
            printed = λ j i q. ⊎_elim (λ n. inl (subst (λ l. PrintsBehind l j i) (sym shut) n)) (λ e. inr (open_too i e)) (printed_snoc (frames_of t.front) (frame_of k x) j i q);
            came = λ i h m. ⊎_elim (λ a. inl (inl a)) (λ a. absurd (no_end_late i h a)) m;
            late = λ i h m. absurd (no_end_late i h m);
            unmade = λ j i l d e. e;
            last = λ i q. inr (open_too i (ap (λ (z : Frame). z.stream) (some_is (frame_of k x) q.1 (sym (last_snoc None (frames_of t.front) (frame_of k x)) ∙ q.2)) ∙ q.3));
            longer = omega arith;
            room = λ j. refl;
          }

      -- there is no memory to render a load
      pub lacks_pass : (xs ys : List Interruption) → Passes bounds t (record t { late = load_of k x ∷ []; set = xs; seen = ys; ceased = true; memory = true })
      lacks_pass xs ys = record {
        printed = λ j i q. inl q;
        came = λ i h m. ⊎_elim (λ a. inl (inl a)) (λ a. absurd (no_end_late i h a)) m;
        late = λ i h m. absurd (no_end_late i h m);
        unmade = λ j i l d e. e;
        last = λ i q. inl q;
        longer = omega arith;
        room = λ j. refl;
      }

      -- a load comes too late
      pub drops_pass : Passes bounds t (record t { late = t.late ++ load_of k x ∷ [] })
      drops_pass = record {
        printed = λ j i q. inl q;
        came = λ i h m. inl (⊎_elim (λ a. inl a) (λ a. inr (end_before_load i k h x t.late a)) m);
        late = λ i h m. inl (end_before_load i k h x t.late m);
        unmade = λ j i l d e. e;
        last = λ i q. inl q;
        longer = omega arith;
        room = λ j. refl;
      }

    module _ (h : How) where
      -- the frames are these, and the one whose write failed
      abbrev LastOf : ℕ → List Frame → Type 0
      LastOf i F = ((bounds.most ≡ Some (length F)) ⊎ (is_some t.cut ≡ true)) × (z : Frame) × (last_or None (F ++ elim t.cut [ Some y ↦ y ∷ [] | None ↦ [] ]) ≡ Some z) × (z.stream ≡ i)

      -- an end comes while frames are written
      pub ends_pass : (xs ys : List Interruption) (b : Bool) → Passes bounds t (record t { front = t.front ++ end_of k h ∷ []; set = xs; seen = ys; ceased = b; memory = b })
      ends_pass xs ys b =
          let same : frames_of (t.front ++ end_of k h ∷ []) ≡ frames_of t.front = frames_end t.front k h in
          record {
            printed = λ j i q. inl (subst (λ (l : List Frame). PrintsBehind (l ++ elim t.cut [ Some y ↦ y ∷ [] | None ↦ [] ]) j i) same q);
            came = λ i g m. ⊎_elim (λ a. ⊎_elim (λ n. inl (inl n)) (λ e. inr (open_too i (sym e.0))) (end_before_end i k g h t.front a)) (λ a. inl (inr a)) m;
            late = λ i g m. inl m;
            unmade = λ j i l d e. e;
            last = λ i q. inl (subst (λ l. LastOf i l) same q);
            longer = omega arith;
            room = λ j. refl;
          }

      -- an end comes later
      pub ends_late_pass : (xs ys : List Interruption) (b : Bool) → Passes bounds t (record t { late = t.late ++ end_of k h ∷ []; set = xs; seen = ys; memory = b })
      ends_late_pass xs ys b = record {
        printed = λ j i q. inl q;
        came = λ i g m. ⊎_elim (λ a. inl (inl a)) (λ a. ⊎_elim (λ n. inl (inr n)) (λ e. inr (open_too i (sym e.0))) (end_before_end i k g h t.late a)) m;
        late = λ i g m. ⊎_elim (λ n. inl n) (λ e. inr (open_too i (sym e.0))) (end_before_end i k g h t.late m);
        unmade = λ j i l d e. e;
        last = λ i q. inl q;
        longer = omega arith;
        room = λ j. refl;
      }

-- The outer stream is pulled, or a stream begins.

-- a number up to another is below it or the same
below_or_same : (k n : ℕ) → k ≤ n → (k < n) ⊎ (k ≡ n)
below_or_same k n l = ⊎_elim (λ e. inr e) (λ ne. inl (omega (arith, l, ne))) (cases_eq k n)

module _ (bounds : Bounds) (t : Tale) (i : IsTale bounds t) where
  -- one that had its turn isn't above the next one
  pub turn_next : (k : ℕ) → HadTurn t k → k ≤ length t.fates
  turn_next k h = ⊎_elim (λ b. (let l = at_below t.fates k Begun b in omega (arith, l))) (λ m. i.room.next k m) h

  -- the stream of a frame was begun
  cut_begun : (c : Option Frame) (f : Frame) → t.cut ≡ c → IsAmong f (elim c [ Some z ↦ z ∷ [] | None ↦ [] ]) → IsBegun t f.stream
  cut_begun None f e m = absurd (among_nil m)
  cut_begun (Some g) f e m =
      let q = i.frames.cut g e in
      let b : IsBegun t g.stream = (i.frames.ours (load_of g.stream g.payload) (inr (subst (λ l. IsAmong (load_of g.stream g.payload) l) (sym q.1) (here q.0)))).0 in
      ⊎_elim (λ (s : f ≡ g). subst (λ (h : Frame). IsBegun t h.stream) (sym s) b) (λ n. absurd (among_nil n)) (among_cons m)

  frame_begun : (f : Frame) → IsAmong f (frames_begun t) → IsBegun t f.stream
  frame_begun f m = ⊎_elim
      (λ n. (i.frames.ours (load_of f.stream f.payload) (inl (frame_came f t.front n))).0)
      (λ n. cut_begun t.cut f refl n)
      (among_append f (frames_of t.front) (elim t.cut [ Some z ↦ z ∷ [] | None ↦ [] ]) m)

  -- none printed behind a stream that wasn't begun
  none_behind : (k j : ℕ) → length t.fates ≤ k → PrintsBehind (frames_begun t) k j → ⊥
  none_behind k j l p = let b = frame_begun p.3 (subst (λ F. IsAmong p.3 F) (sym p.4) (among_mid p.0 p.1 p.3)) in let m = at_below t.fates p.3.stream Begun b in let e = p.5 in omega (arith, m, e, l)

  module _ (unknown : ¬ (IsKnown t 0)) where
    -- no stream came to an end by which no further one begins
    pub none_ended : (j : ℕ) → HasEndedAll bounds t j → ⊥
    none_ended j h = ⊎_elim
        (λ f. unknown (i.ends.fault j f.0 f.1).0)
        (λ x. ⊎_elim
        (λ m. unknown (i.stop (memory_ceased bounds t i (i.ends.memory j m).0)))
        (λ y. ⊎_elim
        (λ s. let q = i.ends.halted j s.0 in ⊎_elim (λ f. s.1 ((q.0, f.0), f.1)) (λ f. unknown (inr (q.0, f.0))) q.2)
        (λ z. ⊎_elim (λ m. unknown (i.stop (late_ceased bounds t i (end_of j m.0) m.1))) (λ e. unknown (i.stop (memory_ceased bounds t i (i.fates.unmade j e).0))) z)
        y)
        x)
        h

    pub none_last : (j : ℕ) → PrintedLast bounds t j → ⊥
    none_last j p = unknown (i.stop (⊎_elim (λ m. i.frames.met m) (λ c. cut_ceased bounds t i c) p.0))

    module _ (room : HasRoom bounds t) where
      -- those that were open when the next stream has its turn are open still
      open_next : (j : ℕ) → WasOpen bounds t (length t.fates) j → IsOpen t j
      open_next j w = ⊎_elim
          (λ o. o)
          (λ x. ⊎_elim
          (λ e. absurd (none_ended j e))
          (λ y. ⊎_elim
          (λ q. absurd (none_last j q))
          (λ q. absurd (let l = at_below t.fates (length t.fates) Begun q.0 in omega (arith, l)))
          y)
          x)
          w

      next_room : (k : ℕ) → k ≡ length t.fates → HadRoom bounds t k
      next_room k e = subst (λ n. HadRoom bounds t n) (sym e) (room.0, λ j l w. room.1 j (open_next j w))

      pub pulled_room : KeepsRoom bounds (pulled t)
      pulled_room = record {
        had = λ k h. ⊎_elim (λ b. i.room.had k (inl b)) (λ m. ⊎_elim (λ e. next_room k e) (λ n. i.room.had k (inr n)) (among_cons m)) h;
        now = λ m. room.1;
        next = λ k m. ⊎_elim (λ e. (omega (arith, e))) (λ n. i.room.next k n) (among_cons m);
      }

module _ (bounds : Bounds) (t : Tale) (i : IsTale bounds t) (may : MayBegin bounds t) where
  count : length (t.fates ++ Begun ∷ []) ≡ suc (length t.fates)
  count = let a = length-append t.fates (Begun ∷ []) in omega (arith, a)

  -- a stream below the new one is open now if it was before
  open_below : (j : ℕ) → j < length t.fates → IsOpen (fated t Begun) j → IsOpen t j
  open_below j l o = (⊎_elim (λ b. b) (λ n. absurd (let e : j ≡ length t.fates = n.0 in omega (arith, e, l))) (at_snoc t.fates Begun j Begun o.0), o.1)

  unmade_below : (j : ℕ) → at (t.fates ++ Begun ∷ []) j ≡ Some Unmade → at t.fates j ≡ Some Unmade
  unmade_below j e = ⊎_elim (λ o. o) (λ n. absurd (let q : Unmade ≡ Begun = n.1 in cc)) (at_snoc t.fates Begun j Unmade e)

  ended_below : (j : ℕ) → HasEndedAll bounds (fated t Begun) j → HasEndedAll bounds t j
  ended_below j h = ⊎_elim (λ f. inl f) (λ x. ⊎_elim (λ m. inr (inl m)) (λ y. ⊎_elim (λ s. inr (inr (inl s))) (λ z. ⊎_elim (λ m. inr (inr (inr (inl m)))) (λ e. inr (inr (inr (inr (unmade_below j e))))) z) y) x) h

  -- for a stream that had its turn before nothing changes
  as_before : (k j : ℕ) → j < k → k < length t.fates → WasOpen bounds (fated t Begun) k j → WasOpen bounds t k j
  as_before k j l b w = ⊎_elim
      (λ o. inl (open_below j (omega (arith, l, b)) o))
      (λ x. ⊎_elim
      (λ e. inr (inl (ended_below j e)))
      (λ y. ⊎_elim
      (λ q. inr (inr (inl q)))
      (λ q. inr (inr (inr (⊎_elim (λ o. o) (λ n. absurd (let e : k ≡ length t.fates = n.0 in omega (arith, e, b))) (at_snoc t.fates Begun k Begun q.0), q.1))))
      y)
      x)
      w

  -- of the new stream none printed, and those before it that were open are open still
  open_now : (k j : ℕ) → k ≡ length t.fates → j < k → WasOpen bounds (fated t Begun) k j → IsOpen t j
  open_now k j is l w = ⊎_elim
      (λ o. open_below j (omega (arith, is, l)) o)
      (λ x. ⊎_elim
      (λ e. absurd (none_ended bounds t i may.run j (ended_below j e)))
      (λ y. ⊎_elim
      (λ q. absurd (none_last bounds t i may.run j q))
      (λ q. ⊎_elim
      (λ p. absurd (none_behind bounds t i k j (omega (arith, is)) p))
      (λ u. absurd (may.own (subst (λ n. IsKnown t (suc n)) is (i.ends.until j k u.1 u.0).0)))
      q.1)
      y)
      x)
      w

  new_room : (k : ℕ) → k ≡ length t.fates → HadRoom bounds (fated t Begun) k
  new_room k e = (subst (λ n. length (t.room n) < bounds.max_open) (sym e) may.room.0, λ j l w. subst (λ n. IsAmong j (t.room n)) (sym e) (may.room.1 j (open_now k j e l w)))

  old_room : (k : ℕ) → HadTurn t k → HadRoom bounds (fated t Begun) k
  old_room k h = ⊎_elim
      (λ l. let r = i.room.had k h in (r.0, λ j m w. r.1 j m (as_before k j m l w)))
      (λ e. new_room k e)
      (below_or_same k (length t.fates) (turn_next bounds t i k h))

  pub begun_room : KeepsRoom bounds (fated t Begun)
  begun_room = record {
    had = λ k h. ⊎_elim (λ b. ⊎_elim (λ old. old_room k (inl old)) (λ new. new_room k new.0) (at_snoc t.fates Begun k Begun b)) (λ m. old_room k (inr m)) h;
    now = λ m. absurd (let l = i.room.next (length (t.fates ++ Begun ∷ [])) m in omega (arith, l, count));
    next = λ k m. (let l = i.room.next k m in omega (arith, l, count));
  }
