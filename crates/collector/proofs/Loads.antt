-- A load came, and the tale goes on.
use Rattle.std.proofs.Common.{◌≡◌, ℕ, ◌+◌, ◌<◌, Bool, true, false, List, [], ◌∷◌, ◌++◌, length, take, drop, Option, Some, None, is_some, option_map, if◌then◌else◌, refl, sym, ◌∙◌, ap, subst, inl, inr, ⊎_elim, arith, append_assoc, append-nil, length-drop}
use Rattle.std.proofs.lemmas.List.{take-append-drop}
use Rattle.chunk_core.specs.Elements.{elements, rendering_of}
use Rattle.chunk_core.specs.Lists.{IsAmong}
use Rattle.chunk_core.specs.Texts.{Frame, IsRestOf, frame_text, frames_text}
use Rattle.chunk_core.specs.declared.code.How.{How}
use Rattle.chunk_core.specs.declared.load.Load.{Load}
use Rattle.chunk_core.proofs.Members.{among_left}
use Rattle.device_port.specs.Sink.{BreaksOff, SinkTold, with_bytes}
use Rattle.interrupt_ctx.specs.declared.view.Interruption.{Interruption}
use Rattle.interrupt_ctx.specs.declared.why.Stop.{Stop}
use Rattle.interrupt_ctx.specs.declared.why.Why.{Why}
use Rattle.interrupt_ctx.specs.declared.why.Why.TheVariants as why
use Rattle.join_report.specs.Calls.{Writes}
use Rattle.join_report.specs.Calls.Writes.{late, some, last, sink, memory}
use Rattle.join_tale.specs.Bounds.{Bounds}
use Rattle.join_tale.specs.Keeping.{IsTale}
use Rattle.join_tale.specs.Steps.{Marks, learned}
use Rattle.join_tale.specs.Tales.{Came, IsOpen, Tale, end_of, frames_of, load_of}
use Rattle.join_tale.proofs.Parts.{end_before_load, frames_load}
use Rattle.join_tale.proofs.Receiving as receiving
use Rattle.collector.specs.Collecting.{WritesTale}
use Rattle.collector.proofs.Placed.{AreCalm, calm_marks, calm_none}

-- the same ends came, and the streams are as they were
pub record SameEnds (t v : Tale) : Type 0 where
  pub fates : v.fates ≡ t.fates
  pub outer : v.outer ≡ t.outer
  pub pulled : v.pulled ≡ t.pulled
  pub room : v.room ≡ t.room
  pub memory : t.memory ≡ true → v.memory ≡ true
  pub came : (j : ℕ) (h : How) → Came t j h → Came v j h
  pub back : (j : ℕ) (h : How) → Came v j h → Came t j h

came_front : (t v : Tale) (k : ℕ) (x : List ℕ) → v.front ≡ t.front ++ load_of k x ∷ [] → v.late ≡ t.late → (j : ℕ) (h : How) → Came t j h → Came v j h
came_front t v k x f l j h c = ⊎_elim (λ a. inl (subst (λ ms. IsAmong (end_of j h) ms) (sym f) (among_left (load_of k x ∷ []) a))) (λ b. inr (subst (λ ms. IsAmong (end_of j h) ms) (sym l) b)) c

back_front : (t v : Tale) (k : ℕ) (x : List ℕ) → v.front ≡ t.front ++ load_of k x ∷ [] → v.late ≡ t.late → (j : ℕ) (h : How) → Came v j h → Came t j h
back_front t v k x f l j h c = ⊎_elim (λ a. inl (end_before_load j k h x t.front (subst (λ ms. IsAmong (end_of j h) ms) f a))) (λ b. inr (subst (λ ms. IsAmong (end_of j h) ms) l b)) c

came_late : (t v : Tale) (k : ℕ) (x : List ℕ) → v.front ≡ t.front → v.late ≡ t.late ++ load_of k x ∷ [] → (j : ℕ) (h : How) → Came t j h → Came v j h
came_late t v k x f l j h c = ⊎_elim (λ a. inl (subst (λ ms. IsAmong (end_of j h) ms) (sym f) a)) (λ b. inr (subst (λ ms. IsAmong (end_of j h) ms) (sym l) (among_left (load_of k x ∷ []) b))) c

back_late : (t v : Tale) (k : ℕ) (x : List ℕ) → v.front ≡ t.front → v.late ≡ t.late ++ load_of k x ∷ [] → (j : ℕ) (h : How) → Came v j h → Came t j h
back_late t v k x f l j h c = ⊎_elim (λ a. inl (subst (λ ms. IsAmong (end_of j h) ms) f a)) (λ b. inr (end_before_load j k h x t.late (subst (λ ms. IsAmong (end_of j h) ms) l b))) c

-- the texts of frames, one more behind them
pub text_more : (F : List Frame) (f : Frame) → frames_text (F ++ f ∷ []) ≡ frames_text F ++ frame_text f.stream f.payload
text_more [] f = append-nil (frame_text f.stream f.payload)
text_more (g ∷ F) f = ap (λ l. frame_text g.stream g.payload ++ l) (text_more F f) ∙ sym (append_assoc (frame_text g.stream g.payload) (frames_text F) (frame_text f.stream f.payload))

-- bytes behind bytes
pub bytes_more : (s : SinkTold) (n : ℕ) (xs ys : List ℕ) → with_bytes (record (with_bytes s xs) { faults = n }) ys ≡ record (with_bytes s (xs ++ ys)) { faults = n }
bytes_more s n xs ys = ap (λ w. record { written = w; faults = n }) (more s.written)
  where
    more : (w : Option (List ℕ)) → option_map (λ l. l ++ ys) (option_map (λ l. l ++ xs) w) ≡ option_map (λ l. l ++ (xs ++ ys)) w
    more None = refl
    more (Some l) = ap Some (append_assoc l xs ys)

not_both : (b : Bool) → b ≡ false → b ≡ true → ⊥
not_both b f t = let e : false ≡ true = sym f ∙ t in cc

rest_none : (o : Option Frame) (rest : List ℕ) → o ≡ None → IsRestOf o rest → rest ≡ []
rest_none None rest e r = r
rest_none (Some f) rest e r = cc

module _ (s0 : SinkTold) where
  -- what was written of a tale without a cut
  pub wrote_none : (old : SinkTold) (t : Tale) → t.cut ≡ None → WritesTale s0 old t → old ≡ record (with_bytes s0 (frames_text (frames_of t.front))) { faults = s0.faults }
  wrote_none old t none w =
      w.wrote ∙ (ap (λ l. record (with_bytes s0 (frames_text (frames_of t.front) ++ l)) { faults = if is_some t.cut then s0.faults + 1 else s0.faults }) (rest_none t.cut w.rest none w.cut)
      ∙ (ap (λ l. record (with_bytes s0 l) { faults = if is_some t.cut then s0.faults + 1 else s0.faults }) (append-nil (frames_text (frames_of t.front)))
      ∙ ap (λ (o : Option Frame). record (with_bytes s0 (frames_text (frames_of t.front))) { faults = if is_some o then s0.faults + 1 else s0.faults }) none))

  -- a tale with the same frames
  pub wrote_same : (old : SinkTold) (t v : Tale) → v.cut ≡ t.cut → frames_of v.front ≡ frames_of t.front → WritesTale s0 old t → WritesTale s0 old v
  wrote_same old t v c f w = record {
    rest = w.rest;
    cut = subst (λ o. IsRestOf o w.rest) (sym c) w.cut;
    wrote = w.wrote ∙ (ap (λ (o : Option Frame). record (with_bytes s0 (frames_text (frames_of t.front) ++ w.rest)) { faults = if is_some o then s0.faults + 1 else s0.faults }) (sym c)
        ∙ ap (λ l. record (with_bytes s0 (frames_text l ++ w.rest)) { faults = if is_some v.cut then s0.faults + 1 else s0.faults }) (sym f));
  }

  -- a frame was written
  pub wrote_more : (old new : SinkTold) (t v : Tale) (k : ℕ) (x : List ℕ) → t.cut ≡ None → v.cut ≡ None → v.front ≡ t.front ++ load_of k x ∷ [] → new ≡ with_bytes old (frame_text k x) → WritesTale s0 old t → WritesTale s0 new v
  wrote_more old new t v k x none still f is w = record {
    rest = [];
    cut = subst (λ o. IsRestOf o []) (sym still) refl;
    wrote = is ∙ (ap (λ s. with_bytes s (frame_text k x)) (wrote_none old t none w)
        ∙ (bytes_more s0 s0.faults (frames_text (frames_of t.front)) (frame_text k x)
        ∙ (ap (λ l. record (with_bytes s0 l) { faults = s0.faults }) (sym (text_more (frames_of t.front) (record { stream = k; payload = x })))
        ∙ (ap (λ F. record (with_bytes s0 (frames_text F)) { faults = s0.faults }) (sym (ap frames_of f ∙ frames_load t.front k x))
        ∙ (ap (λ l. record (with_bytes s0 l) { faults = s0.faults }) (sym (append-nil (frames_text (frames_of v.front))))
        ∙ ap (λ (o : Option Frame). record (with_bytes s0 (frames_text (frames_of v.front) ++ [])) { faults = if is_some o then s0.faults + 1 else s0.faults }) (sym still))))));
  }

  -- a frame was broken off
  pub wrote_cut : (old new : SinkTold) (t v : Tale) (k : ℕ) (x : List ℕ) → t.cut ≡ None → v.cut ≡ Some (record { stream = k; payload = x }) → v.front ≡ t.front → BreaksOff old new (frame_text k x) → WritesTale s0 old t → WritesTale s0 new v
  wrote_cut old new t v k x none is f breaks w =
      let is_old = wrote_none old t none w in
      let faults : old.faults ≡ s0.faults = ap (λ (s : SinkTold). s.faults) is_old in
      record {
        rest = take breaks.count (frame_text k x);
        cut = subst (λ o. IsRestOf o (take breaks.count (frame_text k x))) (sym is) (drop breaks.count (frame_text k x), (let d = length-drop breaks.count (frame_text k x) in let l = breaks.front in omega (arith, d, l)), take-append-drop breaks.count (frame_text k x));
        wrote = breaks.told
            ∙ (ap (λ (s : SinkTold). record (with_bytes s (take breaks.count (frame_text k x))) { faults = s.faults + 1 }) is_old
            ∙ (ap (λ (s : SinkTold). record s { faults = s0.faults + 1 }) (bytes_more s0 s0.faults (frames_text (frames_of t.front)) (take breaks.count (frame_text k x)))
            ∙ (ap (λ F. record (with_bytes s0 (frames_text (frames_of F) ++ take breaks.count (frame_text k x))) { faults = s0.faults + 1 }) (sym f)
            ∙ ap (λ (o : Option Frame). record (with_bytes s0 (frames_text (frames_of v.front) ++ take breaks.count (frame_text k x))) { faults = if is_some o then s0.faults + 1 else s0.faults }) (sym is))));
      }

-- the load x of stream k came behind the tale t, which goes on so
pub record LoadGoes (bounds : Bounds) (t v : Tale) (k : ℕ) (x : List ℕ) (s0 new : SinkTold) : Type 0 where
  pub is_tale : IsTale bounds v
  pub same : SameEnds t v
  pub obeyed : v.obeyed ≡ t.obeyed
  pub set : (vs : List Interruption) × (v.set ≡ t.set ++ vs) × AreCalm vs
  pub got : v.front ++ v.late ≡ (t.front ++ t.late) ++ load_of k x ∷ []
  pub wrote : WritesTale s0 new v

-- a load that comes behind nothing late
got_front : (t v : Tale) (k : ℕ) (x : List ℕ) → t.late ≡ [] → v.front ≡ t.front ++ load_of k x ∷ [] → v.late ≡ t.late → v.front ++ v.late ≡ (t.front ++ t.late) ++ load_of k x ∷ []
got_front t v k x none f l = ap (λ ms. v.front ++ ms) (l ∙ none) ∙ (append-nil v.front ∙ (f ∙ (ap (λ ms. ms ++ load_of k x ∷ []) (sym (append-nil t.front)) ∙ ap (λ ms. (t.front ++ ms) ++ load_of k x ∷ []) (sym none))))

got_late : (t v : Tale) (k : ℕ) (x : List ℕ) → v.front ≡ t.front → v.late ≡ t.late ++ load_of k x ∷ [] → v.front ++ v.late ≡ (t.front ++ t.late) ++ load_of k x ∷ []
got_late t v k x f l = ap (λ ms. ms ++ v.late) f ∙ (ap (λ ms. t.front ++ ms) l ∙ sym (append_assoc t.front t.late (load_of k x ∷ [])))

module _ (bounds : Bounds) (t : Tale) (k : ℕ) (load : Load) (s0 old new : SinkTold) (i : IsTale bounds t) (o : IsOpen t k) (full : 0 < length (rendering_of (elements load))) (so : WritesTale s0 old t) where
  abbrev x : List ℕ
  x = rendering_of (elements load)

  -- nothing was to be interrupted
  pub goes_on : (u : Tale) → Writes bounds.most t k load old new None u → LoadGoes bounds t u k x s0 new
  goes_on u (late ceased same) = record {
    is_tale = receiving.drops bounds t k x i o full ceased;
    same = record { fates = refl; outer = refl; pulled = refl; room = refl; memory = λ m. m; came = came_late t u k x refl refl; back = back_late t u k x refl refl };
    obeyed = refl;
    set = ([], sym (append-nil t.set), calm_none);
    got = got_late t u k x refl refl;
    wrote = subst (λ s. WritesTale s0 s u) (sym same) (wrote_same s0 old t u refl refl so);
  }
  goes_on u (some ceased most is) =
      let quiet = i.frames.quiet ceased in
      record {
        is_tale = receiving.writes bounds t k x i o full ceased most;
        same = record { fates = refl; outer = refl; pulled = refl; room = refl; memory = λ m. m; came = came_front t u k x refl refl; back = back_front t u k x refl refl };
        obeyed = refl;
        set = ([], sym (append-nil t.set), calm_none);
        got = got_front t u k x quiet.0 refl refl;
        wrote = wrote_more s0 old new t u k x quiet.1 quiet.1 refl is so;
      }

  -- the whole run was interrupted for the cause that was told
  pub goes_on_stopped : (u : Tale) (cause : Why) (w : Stop) (vs cs : List Interruption) → Writes bounds.most t k load old new (Some cause) u → w.why ≡ cause → Marks 0 w vs cs → LoadGoes bounds t (learned u vs cs) k x s0 new
  goes_on_stopped u cause w vs cs (last ceased most is) told marks =
      let plain = calm_marks vs cs marks (λ e. let z : why.Take ≡ why.Fault = sym told ∙ e in cc) (λ e. let z : why.Take ≡ why.Until = sym told ∙ e in cc) in
      let quiet = i.frames.quiet ceased in
      let v : Tale = learned u vs cs in
      record {
        is_tale = receiving.meets bounds t k x i o full vs cs told marks ceased most;
        same = record { fates = refl; outer = refl; pulled = refl; room = refl; memory = λ m. m; came = came_front t v k x refl refl; back = back_front t v k x refl refl };
        obeyed = refl;
        set = (vs, refl, plain);
        got = got_front t v k x quiet.0 refl refl;
        wrote = wrote_more s0 old new t v k x quiet.1 quiet.1 refl is so;
      }
  goes_on_stopped u cause w vs cs (sink ceased breaks) told marks =
      let plain = calm_marks vs cs marks (λ e. let z : why.Sink ≡ why.Fault = sym told ∙ e in cc) (λ e. let z : why.Sink ≡ why.Until = sym told ∙ e in cc) in
      let quiet = i.frames.quiet ceased in
      let v : Tale = learned u vs cs in
      let behind : v.late ≡ t.late ++ load_of k x ∷ [] = ap (λ ms. ms ++ load_of k x ∷ []) (sym quiet.0) in
      record {
        is_tale = receiving.fails bounds t k x i o full vs cs told marks ceased;
        same = record { fates = refl; outer = refl; pulled = refl; room = refl; memory = λ m. m; came = came_late t v k x refl behind; back = back_late t v k x refl behind };
        obeyed = refl;
        set = (vs, refl, plain);
        got = got_late t v k x refl behind;
        wrote = wrote_cut s0 old new t v k x quiet.1 refl refl breaks so;
      }
  goes_on_stopped u cause w vs cs (memory ceased same kind) told marks =
      let plain = calm_marks vs cs marks (λ e. let z : why.Memory ≡ why.Fault = sym told ∙ e in cc) (λ e. let z : why.Memory ≡ why.Until = sym told ∙ e in cc) in
      let quiet = i.frames.quiet ceased in
      let v : Tale = learned u vs cs in
      let behind : v.late ≡ t.late ++ load_of k x ∷ [] = ap (λ ms. ms ++ load_of k x ∷ []) (sym quiet.0) in
      record {
        is_tale = receiving.lacks bounds t k x i o full vs cs told marks ceased;
        same = record { fates = refl; outer = refl; pulled = refl; room = refl; memory = λ m. refl; came = came_late t v k x refl behind; back = back_late t v k x refl behind };
        obeyed = refl;
        set = (vs, refl, plain);
        got = got_late t v k x refl behind;
        wrote = subst (λ s. WritesTale s0 s v) (sym same) (wrote_same s0 old t v refl refl so);
      }
