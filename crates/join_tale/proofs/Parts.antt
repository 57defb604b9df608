-- The frames and the loads of messages.
use Rattle.std.proofs.Common.{◌≡◌, ◌⊎◌, ℕ, suc, ◌≤◌, Bool, true, false, nat_eq, if◌then◌else◌, filter, List, [], ◌∷◌, ◌++◌, length, Option, Some, None, inl, inr, refl, sym, ap, ◌∙◌, subst, ⊎_elim, arith, length-append, append-nil}
use Rattle.std.specs.List.{flat_map, last_or}
use Rattle.std.proofs.lemmas.Grind.{flat_map-append}
use Rattle.chunk_core.specs.Lists.{IsAmong}
use Rattle.chunk_core.specs.Lists.IsAmong.{here, there}
use Rattle.chunk_core.specs.Texts.{Frame, payloads_of}
use Rattle.chunk_core.proofs.Bools.{itself, number}
use Rattle.chunk_core.proofs.Cuts.{split_snoc}
use Rattle.chunk_core.proofs.Members.{among_cons, among_nil, among_snoc}
use Rattle.chunk_core.specs.declared.code.How.{How}
use Rattle.run_rules.specs.Outputs.{NeverFall}
use Rattle.join_tale.specs.Tales.{Body, Message, end_of, frames_in, frames_of, load_of, loads_in, loads_of}
use Rattle.join_tale.specs.Tales.Body.{End, Load}
use Rattle.join_tale.proofs.Places.{last_snoc, some_is}

abbrev pub frame_of : ℕ → List ℕ → Frame
frame_of k x = record { stream = k; payload = x }

pub frames_load : (ms : List Message) (k : ℕ) (x : List ℕ) → frames_of (ms ++ load_of k x ∷ []) ≡ frames_of ms ++ frame_of k x ∷ []
frames_load ms k x = flat_map-append frames_in ms (load_of k x ∷ [])

pub frames_end : (ms : List Message) (k : ℕ) (h : How) → frames_of (ms ++ end_of k h ∷ []) ≡ frames_of ms
frames_end ms k h = flat_map-append frames_in ms (end_of k h ∷ []) ∙ append-nil (frames_of ms)

pub length_one : {A : Type 0} (xs : List A) (x : A) → length (xs ++ x ∷ []) ≡ suc (length xs)
length_one xs x = let l = length-append xs (x ∷ []) in omega (arith, l)

-- one frame more
pub more_frames : (ms : List Message) (k : ℕ) (x : List ℕ) → length (frames_of (ms ++ load_of k x ∷ [])) ≡ suc (length (frames_of ms))
more_frames ms k x = ap length (frames_load ms k x) ∙ length_one (frames_of ms) (frame_of k x)

-- an end is no load, and two ends are the same where their streams and their causes are
pub no_end : (j k : ℕ) (h : How) (x : List ℕ) → end_of j h ≡ load_of k x → ⊥
no_end j k h x e = let f : End h ≡ Load x = ap (λ (m : Message). m.body) e in cc

pub same_end : (j k : ℕ) (h g : How) → end_of j h ≡ end_of k g → (j ≡ k) × (h ≡ g)
same_end j k h g e = (ap (λ (m : Message). m.stream) e, let f : End h ≡ End g = ap (λ (m : Message). m.body) e in cc)

-- a load adds no end, and an end adds itself
pub end_before_load : (j k : ℕ) (h : How) (x : List ℕ) (ms : List Message) → IsAmong (end_of j h) (ms ++ load_of k x ∷ []) → IsAmong (end_of j h) ms
end_before_load j k h x ms m = ⊎_elim (λ o. o) (λ e. absurd (no_end j k h x e)) (among_snoc ms (end_of j h) (load_of k x) m)

pub end_before_end : (j k : ℕ) (h g : How) (ms : List Message) → IsAmong (end_of j h) (ms ++ end_of k g ∷ []) → IsAmong (end_of j h) ms ⊎ ((j ≡ k) × (h ≡ g))
end_before_end j k h g ms m = ⊎_elim (λ o. inl o) (λ e. inr (same_end j k h g e)) (among_snoc ms (end_of j h) (end_of k g) m)

abbrev loads_by : Bool → Body → List (List ℕ)
loads_by b body = if b then elim body [ Load x ↦ x ∷ [] | End h ↦ [] ] else []

-- the loads of a stream stay where an end comes, or a load of another stream
pub loads_end : (j k : ℕ) (h : How) (ms : List Message) → loads_of j (ms ++ end_of k h ∷ []) ≡ loads_of j ms
loads_end j k h ms = flat_map-append (loads_in j) ms (end_of k h ∷ []) ∙ ap (λ l. loads_of j ms ++ l) (none (nat_eq k j)) ∙ append-nil (loads_of j ms)
  where
    none : (b : Bool) → loads_by b (End h) ++ [] ≡ []
    none true = refl
    none false = refl

pub loads_other : (j k : ℕ) (x : List ℕ) (ms : List Message) → (j ≡ k → ⊥) → loads_of j (ms ++ load_of k x ∷ []) ≡ loads_of j ms
loads_other j k x ms n = flat_map-append (loads_in j) ms (load_of k x ∷ []) ∙ ap (λ l. loads_of j ms ++ l) (none (nat_eq k j) (λ e. n (sym (number k j e)))) ∙ append-nil (loads_of j ms)
  where
    none : (b : Bool) → (b ≡ true → ⊥) → loads_by b (Load x) ++ [] ≡ []
    none true f = absurd (f refl)
    none false f = refl

pub loads_first : (k : ℕ) (x : List ℕ) (ms : List Message) → loads_of k (load_of k x ∷ ms) ≡ x ∷ loads_of k ms
loads_first k x ms = ap (λ b. loads_by b (Load x) ++ loads_of k ms) (itself k)

abbrev kept_by : Bool → Frame → List Frame → List Frame
kept_by b f fs = if b then f ∷ fs else fs

-- one message more
payloads_load : (x : List ℕ) (f : Frame) (fs : List Frame) (ls : List (List ℕ)) (b : Bool) → f.payload ≡ x → flat_map (λ (g : Frame). g.payload) fs ≡ flat_map (λ y. y) ls → flat_map (λ (g : Frame). g.payload) (kept_by b f fs) ≡ flat_map (λ y. y) (loads_by b (Load x) ++ ls)
payloads_load x f fs ls true p e = ap (λ l. f.payload ++ l) e ∙ ap (λ q. q ++ flat_map (λ y. y) ls) p
payloads_load x f fs ls false p e = e

no_loads : (h : How) (ls : List (List ℕ)) (b : Bool) → flat_map (λ y. y) (loads_by b (End h) ++ ls) ≡ flat_map (λ y. y) ls
no_loads h ls true = refl
no_loads h ls false = refl

payloads_one : (k j : ℕ) (body : Body) (ms : List Message) → payloads_of k (frames_of ms) ≡ flat_map (λ y. y) (loads_of k ms) → payloads_of k (frames_of (record { stream = j; body = body } ∷ ms)) ≡ flat_map (λ y. y) (loads_of k (record { stream = j; body = body } ∷ ms))
payloads_one k j (Load x) ms e = payloads_load x (frame_of j x) (filter (λ (f : Frame). nat_eq f.stream k) (frames_of ms)) (loads_of k ms) (nat_eq j k) refl e
payloads_one k j (End h) ms e = e ∙ sym (no_loads h (loads_of k ms) (nat_eq j k))

-- what was printed of a stream are its loads
pub payloads_loads : (k : ℕ) (ms : List Message) → payloads_of k (frames_of ms) ≡ flat_map (λ x. x) (loads_of k ms)
payloads_loads k [] = refl
payloads_loads k (m ∷ ms) = payloads_one k m.stream m.body ms (payloads_loads k ms)

frame_one : (f : Frame) (j : ℕ) (body : Body) (ms : List Message) → (IsAmong f (frames_of ms) → IsAmong (load_of f.stream f.payload) ms) → IsAmong f (frames_of (record { stream = j; body = body } ∷ ms)) → IsAmong (load_of f.stream f.payload) (record { stream = j; body = body } ∷ ms)
frame_one f j (Load x) ms h i = ⊎_elim (λ e. subst (λ (g : Frame). IsAmong (load_of g.stream g.payload) (load_of j x ∷ ms)) (sym e) (here ms)) (λ o. there (load_of j x) (h o)) (among_cons i)
frame_one f j (End g) ms h i = there (end_of j g) (h i)

-- a frame is the one of a load
pub frame_came : (f : Frame) (ms : List Message) → IsAmong f (frames_of ms) → IsAmong (load_of f.stream f.payload) ms
frame_came f [] m = absurd (among_nil m)
frame_came f (n ∷ ms) m = frame_one f n.stream n.body ms (frame_came f ms) m

-- the frame that was begun last
pub last_written : (ms : List Message) (k : ℕ) (x : List ℕ) (cut : Option Frame) (f : Frame) → cut ≡ None → last_or None (frames_of (ms ++ load_of k x ∷ []) ++ elim cut [ Some g ↦ g ∷ [] | None ↦ [] ]) ≡ Some f → k ≡ f.stream
last_written ms k x cut f none e =
    let is : frames_of (ms ++ load_of k x ∷ []) ++ elim cut [ Some g ↦ g ∷ [] | None ↦ [] ] ≡ frames_of ms ++ frame_of k x ∷ [] = ap (λ (c : Option Frame). frames_of (ms ++ load_of k x ∷ []) ++ elim c [ Some g ↦ g ∷ [] | None ↦ [] ]) none ∙ append-nil (frames_of (ms ++ load_of k x ∷ [])) ∙ frames_load ms k x in
    ap (λ (g : Frame). g.stream) (some_is (frame_of k x) f (sym (last_snoc None (frames_of ms) (frame_of k x)) ∙ ap (λ (l : List Frame). last_or None l) (sym is) ∙ e))

-- a frame of no earlier stream comes behind those that never fall
pub falls_never : (F : List Frame) (g : Frame) → NeverFall F → ((f : Frame) → IsAmong f F → f.stream ≤ g.stream) → NeverFall (F ++ g ∷ [])
falls_never F g n above A B f h e m = ⊎_elim
    (λ s. subst (λ (x : Frame). f.stream ≤ x.stream) s.1 (above f (subst (λ l. IsAmong f l) (sym s.0) m)))
    (λ s. n A s.0 f h s.1 m)
    (split_snoc F A B g h e)
