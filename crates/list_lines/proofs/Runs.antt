-- Runs of a list.
use Rattle.std.proofs.Common.{◌≡◌, ℕ, ◌+◌, ◌≤◌, List, [], ◌∷◌, ◌++◌, append_assoc, length, length-append, length-drop, map, take, drop, Option, Some, None, inl, inr, refl, sym, ap, ◌∙◌, subst, ⊎_elim, arith}
use Rattle.std.specs.Prelude.{IfSome}
use Rattle.std.proofs.lemmas.List.{length-take, length-take-le, map-append}
use Rattle.std.proofs.Math.Seq.{take-add}
use Rattle.chunk_core.specs.Elements.{Byte, Element}
use Rattle.chunk_core.specs.Feed.{Meaning}
use Rattle.chunk_core.specs.Outcomes.{Cut, End, Fault}
use Rattle.chunk_core.specs.declared.code.Code.{Code}
use Rattle.device_port.specs.Device.{DeviceTold}
use Rattle.pull_nodes.specs.Runs.{FirstBytes, GivesAtEnd, GivesBy, OrLeft, Piped, Reads}
use Rattle.list_lines.specs.Lists.{ListRun}

-- the first bytes, and n more that were read to the front of a buffer
pub more_bytes : (content : Option (List ℕ)) (at n : ℕ) (xs : List Element) (buffer : List ℕ) → FirstBytes content at xs → n ≤ length buffer → IfSome content (λ c. take n buffer ≡ take n (drop at c)) → FirstBytes content (at + n) (xs ++ map Byte (take n buffer))
more_bytes None at n xs buffer f few given =
    let a = length-append f.0 (take n buffer) in
    let b = length-take-le n buffer few in
    let c = f.1 in
    (f.0 ++ take n buffer, omega (a, b, c, arith), ap (λ l. l ++ map Byte (take n buffer)) f.2 ∙ sym (map-append Byte f.0 (take n buffer)))
more_bytes (Some c) at n xs buffer f few given =
    ap (λ l. l ++ map Byte (take n buffer)) f
    ∙ (ap (λ l. map Byte (take at c) ++ map Byte l) given ∙ (sym (map-append Byte (take at c) (take n (drop at c))) ∙ ap (map Byte) (sym (take-add at n c))))

-- they are within the content
pub more_within : (content : Option (List ℕ)) (at n : ℕ) (buffer : List ℕ) → IfSome content (λ c. at ≤ length c) → n ≤ length buffer → IfSome content (λ c. take n buffer ≡ take n (drop at c)) → IfSome content (λ c. at + n ≤ length c)
more_within None at n buffer within few given = tt
more_within (Some c) at n buffer within few given =
    let a = length-take-le n buffer few in
    let b = ap length given in
    let d = length-take n (drop at c) in
    let e = length-drop at c in
    omega (a, b, d, e, within, arith)

module _ (m : Meaning) (d : DeviceTold) where
  module _ (xs : List Element) where
    -- the reading was left behind a front of the bytes
    pub left_there : (more : List Element) → FirstBytes d.content d.at (xs ++ more) → OrLeft (Unit {0}) (Reads d) xs Cut
    left_there more f = inr (refl, inr (more, Cut, (f, tt)))

    pub runs_so : (g e : End) (ys : List Element) → (m.part xs).fault ≡ None → OrLeft (Unit {0}) (Reads d) xs g → GivesAtEnd m.part m.all xs g ys e → ListRun m d ys e
    runs_so g e ys sound reads gives = inl (xs, g, reads, subst (λ f. GivesBy f m.part m.all xs g ys e) (sym sound) gives)

    pub runs_to_fault : (c : Code) (g : End) → (m.part xs).fault ≡ Some c → OrLeft (Unit {0}) (Reads d) xs g → ListRun m d (m.part xs).list (Fault c)
    runs_to_fault c g fault reads = inl (xs, g, reads, subst (λ f. GivesBy f m.part m.all xs g (m.part xs).list (Fault c)) (sym fault) (refl, refl))

  -- a front of a run is one that was left
  pub front_runs : (ys more : List Element) (e : End) → ListRun m d (ys ++ more) e → ListRun m d ys Cut
  front_runs ys more e h = ⊎_elim
      (λ r. inr (refl, inr (more, e, r)))
      (λ c. ⊎_elim
      (λ i. inr (refl, inl (nothing_before ys more i.0, tt)))
      (λ i. inr (refl, inr (more ++ i.0, i.1, subst (λ l. Piped m.part m.all (OrLeft (Unit {0}) (Reads d)) l i.1) (append_assoc ys more i.0) i.2)))
      c.1)
      h
    where
      nothing_before : (ys more : List Element) → ys ++ more ≡ [] → ys ≡ []
      nothing_before [] more e = refl
      nothing_before (y ∷ ys) more e = let z : y ∷ (ys ++ more) ≡ [] = e in cc
