-- What a run over a file can give is a front of what the whole file gives.
use Rattle.std.proofs.Common.{◌≡◌, ◌≢◌, ℕ, List, [], ◌∷◌, ◌++◌, map, flat_map, take, drop, length, Option, Some, None, IfSome, inl, inr, refl, sym, ap, ◌∙◌, subst, append_assoc}
use Rattle.std.proofs.lemmas.List.{take-append-drop}
use Rattle.std.proofs.Math.Seq.{take-length}
use Rattle.chunk_core.specs.Elements.{Element, Byte, element_text, rendering_of}
use Rattle.chunk_core.specs.Feed.{Given}
use Rattle.chunk_core.specs.Outcomes.{End, Cut, Done, Fault, Outcomes}
use Rattle.chunk_core.specs.declared.code.Code.{Code}
use Rattle.device_port.specs.Device.{DeviceTold}
use Rattle.pull_nodes.specs.Plain.{IsFront}
use Rattle.pull_nodes.specs.Runs.{FirstBytes, GivesAtEnd, GivesBy, OpensThen, Piped, Reads, StopsReading}
use Rattle.pull_nodes.proofs.Fronts.{front_map, front_same}
use Rattle.pull_nodes.proofs.Steady.{SteadyBy}
use Rattle.run_rules.specs.Outputs.{RunsOrLeft, elements_in_pieces}
use Rattle.run_laws.specs.Streams.{InFile, Leaves}

-- what R gives is a front of ws, and all of it where R is done
abbrev pub IsWithin : Outcomes → List Element → Type 0
IsWithin R ws = (ys : List Element) (e : End) → R ys e → IsFront ys ws × (e ≡ Done → ys ≡ ws)

pub cut_done : Cut ≢ Done
cut_done e = cc

pub fault_done : (c : Code) → Fault c ≢ Done
fault_done c e = cc

pub none_some : (c : Code) → None ≢ Some c
none_some c e = cc

front_nil : {A : Type 0} (ws : List A) → IsFront [] ws
front_nil ws = (ws, refl)

pub front_trans : {A : Type 0} (xs ys zs : List A) → IsFront xs ys → IsFront ys zs → IsFront xs zs
front_trans xs ys zs f g = (f.0 ++ g.0, g.1 ∙ (ap (λ l. l ++ g.0) f.1 ∙ append_assoc xs f.0 g.0))

-- a run that was left gave a front
pub left_within : (R : Outcomes) (ws : List Element) → IsWithin R ws → IsWithin (Leaves R) ws
left_within R ws h ys e (inl r) = h ys e r
left_within R ws h ys e (inr (c, inl n)) = (subst (λ l. IsFront l ws) (sym n.0) (front_nil ws), λ d. absurd (cut_done (sym c ∙ d)))
left_within R ws h ys e (inr (c, inr m)) = (front_trans ys (ys ++ m.0) ws (m.0, refl) (h (ys ++ m.0) m.1 m.2).0, λ d. absurd (cut_done (sym c ∙ d)))

-- nor did one that was left more than its run
pub or_left_within : (R : Outcomes) (ws : List Element) → IsWithin R ws → IsWithin (RunsOrLeft R) ws
or_left_within R ws h ys e (inl r) = h ys e r
or_left_within R ws h ys e (inr (c, (more, g, r))) = (front_trans ys (ys ++ more) ws (more, refl) (h (ys ++ more) g r).0, λ d. absurd (cut_done (sym c ∙ d)))

opens_within : (d : DeviceTold) (A : Outcomes) (ws : List Element) → IsWithin A ws → IsWithin (OpensThen d A (Unit {0})) ws
opens_within d A ws h ys e (inl o) = h ys e o.2
opens_within d A ws h ys e (inr o) = (subst (λ l. IsFront l ws) (sym o.2) (front_nil ws), λ g. absurd (fault_done _ (sym o.3 ∙ g)))

pub file_within : (d : DeviceTold) (A : Outcomes) (ws : List Element) → IsWithin A ws → IsWithin (InFile d A) ws
file_within d A ws h = left_within (OpensThen d (Leaves A) (Unit {0})) ws (opens_within d (Leaves A) ws (left_within A ws h))

first_front : (c : List ℕ) (n : ℕ) (ys : List Element) → FirstBytes (Some c) n ys → IsFront ys (map Byte c)
first_front c n ys h = subst (λ l. IsFront l (map Byte c)) (sym h) (front_map Byte (take n c) c (drop n c, sym (take-append-drop n c)))

first_whole : (c : List ℕ) (n : ℕ) (ys : List Element) → n ≡ length c → FirstBytes (Some c) n ys → ys ≡ map Byte c
first_whole c n ys e h = h ∙ ap (map Byte) (ap (λ m. take m c) e ∙ take-length c)

read_all : (d : DeviceTold) (c : List ℕ) (e : End) → d.content ≡ Some c → StopsReading d e → e ≡ Done → d.at ≡ length c
read_all d c Done k s q = let i : IfSome (Some c) (λ b. d.at ≡ length b) = subst (λ o. IfSome o (λ b. d.at ≡ length b)) k s.3 in i
read_all d c (Fault f) k s q = absurd (fault_done f q)
read_all d c Cut k s q = absurd (cut_done q)

pub reads_within : (d : DeviceTold) (c : List ℕ) → d.content ≡ Some c → IsWithin (Reads d) (map Byte c)
reads_within d c k ys e r =
    let f : FirstBytes (Some c) d.at ys = subst (λ o. FirstBytes o d.at ys) k r.0 in
    (first_front c d.at ys f, λ q. first_whole c d.at ys (read_all d c e k r.1 q) f)

-- What goes through a pipe that finds no fault in all of it.

module _ (part all : List Element → Given) (steady : SteadyBy part all) (ws : List Element) (good : (part ws).fault ≡ None) where
  part_front : (xs ys : List Element) → IsFront xs ws → (part xs).fault ≡ None → ys ≡ (part xs).list → IsFront ys (all ws).list
  part_front xs ys f n h =
      subst (λ l. IsFront l (all ws).list) (sym h)
      (front_trans (part xs).list (part ws).list (all ws).list (subst (λ l. IsFront (part xs).list (part l).list) (sym f.1) (steady.grows xs f.0 n)) (steady.ends ws good))

  gives_at_end : (xs ys : List Element) (g e : End) → IsFront xs ws → (g ≡ Done → xs ≡ ws) → (part xs).fault ≡ None → GivesAtEnd part all xs g ys e → IsFront ys (all ws).list × (e ≡ Done → ys ≡ (all ws).list)
  gives_at_end xs ys Done e f w n h =
      let s : ys ≡ (all ws).list = h.0 ∙ ap (λ l. (all l).list) (w refl) in
      (subst (λ l. IsFront l (all ws).list) (sym s) (front_same (all ws).list), λ q. s)
  gives_at_end xs ys (Fault c) e f w n h = (part_front xs ys f n h.0, λ q. absurd (fault_done c (sym h.1 ∙ q)))
  gives_at_end xs ys Cut e f w n h = (part_front xs ys f n h.0, λ q. absurd (cut_done (sym h.1 ∙ q)))

  -- the pipe's own fault would be one of the whole too
  gives_by : (o : Option Code) (xs ys : List Element) (g e : End) → (part xs).fault ≡ o → IsFront xs ws → (g ≡ Done → xs ≡ ws) → GivesBy o part all xs g ys e → IsFront ys (all ws).list × (e ≡ Done → ys ≡ (all ws).list)
  gives_by None xs ys g e n f w h = gives_at_end xs ys g e f w n h
  gives_by (Some c) xs ys g e n f w h =
      let same : part ws ≡ part xs = ap part f.1 ∙ (steady.stops xs f.0 c n).0 in
      absurd (none_some c (sym good ∙ (ap (λ (p : Given). p.fault) same ∙ n)))

  pub piped_within : (A : Outcomes) → IsWithin A ws → IsWithin (Piped part all A) (all ws).list
  piped_within A h ys e p = let a = h p.0 p.1 p.2 in gives_by (part p.0).fault p.0 ys p.1 e refl a.0 a.1 p.3

rendered : (xs ys : List Element) → rendering_of (xs ++ ys) ≡ rendering_of xs ++ rendering_of ys
rendered [] ys = refl
rendered (x ∷ xs) ys = ap (λ l. element_text x ++ l) (rendered xs ys) ∙ sym (append_assoc (element_text x) (rendering_of xs) (rendering_of ys))

-- the text of a front is a front of the text
pub rendered_front : (xs ws : List Element) → IsFront xs ws → IsFront (rendering_of xs) (rendering_of ws)
rendered_front xs ws f = (rendering_of f.0, ap rendering_of f.1 ∙ rendered xs f.0)

-- the text of pieces is their texts one after another
pub rendered_pieces : (ps : List (List Element)) → rendering_of (elements_in_pieces ps) ≡ flat_map (λ p. p) (map rendering_of ps)
rendered_pieces [] = refl
rendered_pieces (p ∷ ps) = rendered p (elements_in_pieces ps) ∙ ap (λ l. rendering_of p ++ l) (rendered_pieces ps)
