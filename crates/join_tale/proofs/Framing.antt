-- What is kept of the frames.
use Rattle.std.proofs.Common.{◌≡◌, ◌⊎◌, ℕ, suc, ◌<◌, ◌≤◌, Bool, true, false, List, [], ◌∷◌, ◌++◌, length, Option, Some, None, IfSome, is_some, inl, inr, refl, sym, ap, ◌∙◌, subst, ⊎_elim, append-nil}
use Rattle.chunk_core.specs.Lists.{IsAmong}
use Rattle.chunk_core.specs.Texts.{Frame}
use Rattle.chunk_core.proofs.Members.{among_cons, among_nil, among_snoc}
use Rattle.chunk_core.specs.declared.code.How.{How}
use Rattle.interrupt_ctx.specs.declared.view.Interruption.{Interruption}
use Rattle.run_rules.specs.Facts.{at}
use Rattle.run_rules.specs.Outputs.{NeverFall}
use Rattle.join_tale.specs.Bounds.{Bounds, is_in_turn}
use Rattle.join_tale.specs.Keeping.{IsFull, IsLast, KeepsEnds, KeepsFrames}
use Rattle.join_tale.specs.Tales.{Fate, HasCome, HasMet, IsBegun, IsOpen, Message, Tale, end_of, frames_begun, frames_of, load_of, loads_of}
use Rattle.join_tale.specs.Tales.Fate.{Begun}
use Rattle.join_tale.proofs.Parts.{falls_never, frame_came, frame_of, frames_end, frames_load, last_written, length_one, more_frames, loads_end, loads_other}
use Rattle.join_tale.proofs.Places.{last_snoc, none_is_some, none_some, not_both, some_is, within_more}

-- a stream that is open is the last one that was begun, where one is open at a time
pub open_last : (bounds : Bounds) (t : Tale) (k : ℕ) → KeepsEnds bounds t → IsOpen t k → IsLast bounds t k
open_last bounds t k i o w j b = ⊎_elim (λ c. absurd (o.1 c)) (λ l. l j b) (i.in_turn w k o.0)

module _ (bounds : Bounds) (t : Tale) (i : KeepsFrames bounds t) where
  pub not_met : t.ceased ≡ false → HasMet bounds t → ⊥
  not_met c m = not_both t.ceased c (i.met m)

  -- neither frames nor loads come
  pub frames_stay : (fs : List Fate) (o : Option How) (xs ys : List Interruption) (b m : Bool) → (b ≡ false → (t.ceased ≡ false) × (m ≡ false)) → (b ≡ true → HasMet bounds t ⊎ (is_some t.cut ≡ true) ⊎ (m ≡ true)) → (t.ceased ≡ true → b ≡ true)
      → ((k : ℕ) → IsBegun t k → at fs k ≡ Some Begun) → (HasMet bounds t ⊎ (is_some t.cut ≡ true) → (k : ℕ) → at fs k ≡ Some Begun → IsBegun t k) → KeepsFrames bounds (record t { fates = fs; outer = o; set = xs; seen = ys; ceased = b; memory = m })
  frames_stay fs o xs ys b m quiet ceased stays on back = record {
    quiet = λ e. let q = quiet e in (let r = i.quiet q.0 in (r.0, r.1, q.1));
    ceased = ceased;
    met = λ h. stays (i.met h);
    few = i.few;
    cut = i.cut;
    in_turn = i.in_turn;
    last = λ h f e w j d. i.last h f e w j (back h j d);
    whole = i.whole;
    ours = λ n h. let q = i.ours n h in (on n.stream q.0, q.1);
  }

  -- of a load nothing is left behind an end, since its stream is open
  open_apart : (k j : ℕ) (h : How) → IsOpen t k → IsAmong (end_of j h) t.front → j ≡ k → ⊥
  open_apart k j h o m e = o.1 (subst (λ q. HasCome t q) e (h, inl m))

  module _ (k : ℕ) (x : List ℕ) (o : IsOpen t k) (last : IsLast bounds t k) (full : 0 < length x) where
    new_ours : (m : Message) → m ≡ load_of k x → IsBegun t m.stream × IsFull m.body
    new_ours m e = subst (λ (q : Message). IsBegun t q.stream × IsFull q.body) (sym e) (o.0, full)

    written_below : is_in_turn bounds ≡ true → (f : Frame) → IsAmong f (frames_of t.front) → f.stream ≤ k
    written_below w f m = last w f.stream (i.ours (load_of f.stream f.payload) (inl (frame_came f t.front m))).0

    -- the frame of the load is of no earlier stream than those before it
    one_more : is_in_turn bounds ≡ true → NeverFall (frames_of t.front) → NeverFall (frames_of t.front ++ frame_of k x ∷ [])
    one_more w n = falls_never (frames_of t.front) (frame_of k x) n (written_below w)

    -- a load is written; b says whether enough are then
    pub frames_write : (xs ys : List Interruption) (b : Bool) → t.ceased ≡ false → (b ≡ true → bounds.most ≡ Some (suc (length (frames_of t.front)))) → (bounds.most ≡ Some (suc (length (frames_of t.front))) → b ≡ true)
        → KeepsFrames bounds (record t { front = t.front ++ load_of k x ∷ []; set = xs; seen = ys; ceased = b })
    frames_write xs ys b c enough met =
        let more : length (frames_of (t.front ++ load_of k x ∷ [])) ≡ suc (length (frames_of t.front)) = more_frames t.front k x in
        let q : (t.late ≡ []) × (t.cut ≡ None) × (t.memory ≡ false) = i.quiet c in
        let shut : (l : List Frame) → l ++ elim t.cut [ Some f ↦ f ∷ [] | None ↦ [] ] ≡ l = λ l. ap (λ (u : Option Frame). l ++ elim u [ Some f ↦ f ∷ [] | None ↦ [] ]) q.1 ∙ append-nil l in
        record {
          quiet = λ e. q;
          ceased = λ e. inl (enough e ∙ ap Some (sym more));
          met = λ h. met (h ∙ ap Some more);
          few = within_more bounds.most (length (frames_of t.front)) (length (frames_of (t.front ++ load_of k x ∷ []) ++ elim t.cut [ Some f ↦ f ∷ [] | None ↦ [] ])) (subst (λ (l : List Frame). IfSome bounds.most (λ n. length l ≤ n)) (shut (frames_of t.front)) i.few) (λ h. not_met c h) (ap length (shut (frames_of (t.front ++ load_of k x ∷ []))) ∙ more);
          cut = i.cut;
          in_turn = λ w. subst (λ l. NeverFall l) (sym (shut (frames_of (t.front ++ load_of k x ∷ [])) ∙ frames_load t.front k x)) (one_more w (subst (λ l. NeverFall l) (shut (frames_of t.front)) (i.in_turn w)));
          last = λ h f e. subst (λ j. IsLast bounds t j) (last_written t.front k x t.cut f q.1 e) last;
          whole = λ j h m. ap (λ l. loads_of j l) q.0;
          ours = λ m h. ⊎_elim (λ a. ⊎_elim (λ z. i.ours m (inl z)) (λ z. new_ours m z) (among_snoc t.front m (load_of k x) a)) (λ a. i.ours m (inr a)) h;
        }

    -- the write of a load fails
    pub frames_fail : (xs ys : List Interruption) → t.ceased ≡ false → KeepsFrames bounds (record t { late = load_of k x ∷ []; set = xs; seen = ys; ceased = true; cut = Some (frame_of k x) })
    frames_fail xs ys c =
        let q : (t.late ≡ []) × (t.cut ≡ None) × (t.memory ≡ false) = i.quiet c in
        let shut : frames_begun t ≡ frames_of t.front = ap (λ (u : Option Frame). frames_of t.front ++ elim u [ Some f ↦ f ∷ [] | None ↦ [] ]) q.1 ∙ append-nil (frames_of t.front) in
        record {
          quiet = λ e. absurd (not_both true e refl);
          ceased = λ e. inr (inl refl);
          met = λ h. refl;
          few = within_more bounds.most (length (frames_of t.front)) (length (frames_of t.front ++ frame_of k x ∷ [])) (subst (λ (l : List Frame). IfSome bounds.most (λ n. length l ≤ n)) shut i.few) (λ h. not_met c h) (length_one (frames_of t.front) (frame_of k x));
          cut = λ f e. ([], subst (λ (g : Frame). load_of k x ∷ [] ≡ load_of g.stream g.payload ∷ []) (some_is (frame_of k x) f e) refl);
          in_turn = λ w. one_more w (subst (λ l. NeverFall l) shut (i.in_turn w));
          last = λ h f e. subst (λ (g : Frame). IsLast bounds t g.stream) (some_is (frame_of k x) f (sym (last_snoc None (frames_of t.front) (frame_of k x)) ∙ e)) last;
          whole = λ j h m. loads_other j k x [] (λ e. open_apart k j h o m e);
          ours = λ m h. ⊎_elim (λ a. i.ours m (inl a)) (λ a. ⊎_elim (λ z. new_ours m z) (λ z. absurd (among_nil z)) (among_cons a)) h;
        }

    -- there is no memory to render a load
    pub frames_lack : (xs ys : List Interruption) → t.ceased ≡ false → KeepsFrames bounds (record t { late = load_of k x ∷ []; set = xs; seen = ys; ceased = true; memory = true })
    frames_lack xs ys c =
        let q : (t.late ≡ []) × (t.cut ≡ None) × (t.memory ≡ false) = i.quiet c in
        record {
          quiet = λ e. absurd (not_both true e refl);
          ceased = λ e. inr (inr refl);
          met = λ h. refl;
          few = i.few;
          cut = λ f e. absurd (none_some (sym q.1 ∙ e));
          in_turn = i.in_turn;
          last = λ h f e. absurd (⊎_elim (λ z. not_met c z) (λ z. none_is_some t.cut q.1 z) h);
          whole = λ j h m. loads_other j k x [] (λ e. open_apart k j h o m e);
          ours = λ m h. ⊎_elim (λ a. i.ours m (inl a)) (λ a. ⊎_elim (λ z. new_ours m z) (λ z. absurd (among_nil z)) (among_cons a)) h;
        }

    -- a load comes too late
    pub frames_drop : t.ceased ≡ true → KeepsFrames bounds (record t { late = t.late ++ load_of k x ∷ [] })
    frames_drop c = record {
      quiet = λ e. absurd (not_both t.ceased e c);
      ceased = i.ceased;
      met = i.met;
      few = i.few;
      cut = λ f e. let q = i.cut f e in (q.0 ++ load_of k x ∷ [], ap (λ l. l ++ load_of k x ∷ []) q.1);
      in_turn = i.in_turn;
      last = i.last;
      whole = λ j h m. loads_other j k x t.late (λ e. open_apart k j h o m e) ∙ i.whole j h m;
      ours = λ m h. ⊎_elim (λ a. i.ours m (inl a)) (λ a. ⊎_elim (λ z. i.ours m (inr z)) (λ z. new_ours m z) (among_snoc t.late m (load_of k x) a)) h;
    }

  module _ (k : ℕ) (h : How) (o : IsOpen t k) where
    end_ours : (m : Message) → m ≡ end_of k h → IsBegun t m.stream × IsFull m.body
    end_ours m e = subst (λ (q : Message). IsBegun t q.stream × IsFull q.body) (sym e) (o.0, tt)

    -- an end comes while frames are written
    pub frames_end_front : (xs ys : List Interruption) (b : Bool) → t.ceased ≡ false → KeepsFrames bounds (record t { front = t.front ++ end_of k h ∷ []; set = xs; seen = ys; ceased = b; memory = b })
    frames_end_front xs ys b c =
        let q : (t.late ≡ []) × (t.cut ≡ None) × (t.memory ≡ false) = i.quiet c in
        let same : frames_of (t.front ++ end_of k h ∷ []) ≡ frames_of t.front = frames_end t.front k h in
        let unmet : bounds.most ≡ Some (length (frames_of (t.front ++ end_of k h ∷ []))) → ⊥ = λ m. not_met c (m ∙ ap (λ (l : List Frame). Some (length l)) same) in
        record {
          quiet = λ e. (q.0, q.1, e);
          ceased = λ e. inr (inr e);
          met = λ m. absurd (unmet m);
          few = subst (λ (l : List Frame). IfSome bounds.most (λ n. length (l ++ elim t.cut [ Some f ↦ f ∷ [] | None ↦ [] ]) ≤ n)) (sym same) i.few;
          cut = i.cut;
          in_turn = λ w. subst (λ (l : List Frame). NeverFall (l ++ elim t.cut [ Some f ↦ f ∷ [] | None ↦ [] ])) (sym same) (i.in_turn w);
          last = λ m f e. absurd (⊎_elim (λ z. unmet z) (λ z. none_is_some t.cut q.1 z) m);
          whole = λ j g m. ap (λ l. loads_of j l) q.0;
          ours = λ m a. ⊎_elim (λ n. ⊎_elim (λ z. i.ours m (inl z)) (λ z. end_ours m z) (among_snoc t.front m (end_of k h) n)) (λ n. i.ours m (inr n)) a;
        }

    -- an end comes later
    pub frames_end_late : (xs ys : List Interruption) (b : Bool) → t.ceased ≡ true → (t.memory ≡ true → b ≡ true) → KeepsFrames bounds (record t { late = t.late ++ end_of k h ∷ []; set = xs; seen = ys; memory = b })
    frames_end_late xs ys b c memory = record {
      quiet = λ e. absurd (not_both t.ceased e c);
      ceased = λ e. ⊎_elim (λ z. inl z) (λ z. ⊎_elim (λ y. inr (inl y)) (λ y. inr (inr (memory y))) z) (i.ceased e);
      met = i.met;
      few = i.few;
      cut = λ f e. let q = i.cut f e in (q.0 ++ end_of k h ∷ [], ap (λ l. l ++ end_of k h ∷ []) q.1);
      in_turn = i.in_turn;
      last = i.last;
      whole = λ j g m. loads_end j k h t.late ∙ i.whole j g m;
      ours = λ m a. ⊎_elim (λ n. i.ours m (inl n)) (λ n. ⊎_elim (λ z. i.ours m (inr z)) (λ z. end_ours m z) (among_snoc t.late m (end_of k h) n)) a;
    }
