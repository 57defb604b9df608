-- What may come of a few nodes, and what may not.
use Rattle.std.proofs.Common.{◌≡◌, ◌⊎◌, ℕ, List, [], ◌∷◌, ◌++◌, map, length, Some, refl, ap, subst, ◌∙◌, inl, inr, codes, arith}
use Rattle.chunk_core.specs.Elements.{Element, Byte, Line, Row, rendering_of}
use Rattle.chunk_core.specs.Outcomes.{End, Done, Fault, Cut}
use Rattle.chunk_core.specs.declared.code.Code.TheVariants as code
use Rattle.chunk_core.specs.declared.load.Load.TheVariants as load
use Rattle.device_port.specs.Depot.{fresh}
use Rattle.device_port.specs.Device.{DeviceTold}
use Rattle.device_port.specs.declared.device.Mode.TheVariants as mode
use Rattle.pull_nodes.specs.Runs.{IsRun, IsIdealRun, IsFault, OrLeft, Exactly, Written}
use Rattle.chunk_core.specs.Tables.{Values}
use Rattle.pull_nodes.specs.declared.node.Node.{Node}
use Rattle.pull_nodes.specs.declared.node.Node.TheVariants.{Emit, Raise, Read, Weak', Append', Take', Zip', Merge', Into'}

abbrev a : List ℕ
a = codes "a"

abbrev b : List ℕ
b = codes "b"

abbrev c : List ℕ
c = codes "c"

-- the lines a and b, and the line c
abbrev two : Node
two = Emit (load.Lines (a ∷ b ∷ []))

abbrev one : Node
one = Emit (load.Lines (c ∷ []))

-- a device with this content, which was never opened
abbrev unopened : List ℕ → DeviceTold
unopened bytes = fresh (record { files = Some (λ path. Some bytes); made = []; retired = [] }) (record { path = []; mode = mode.Read })

-- a device to which this was written, with so many failed writes
abbrev wrote : List ℕ → ℕ → DeviceTold
wrote bytes faults = record (unopened []) { opens = 1; written = Some bytes; write_faults = faults }

-- a front of one element is nothing or all
front_of_one : (xs more : List Element) (x : Element) → xs ++ more ≡ x ∷ [] → (xs ≡ []) ⊎ (xs ≡ x ∷ [])
front_of_one [] more x h = inl refl
front_of_one (y ∷ []) more x h = inr cc
front_of_one (y ∷ z ∷ xs) more x h = absurd (cc)

nothing_written : c ≡ rendering_of [] → ⊥
nothing_written h = cc

whole_written : c ≡ rendering_of (Line c ∷ []) → ⊥
whole_written h = cc

-- a line whose line feed wasn't written, though no write failed
half : (ys : List Element) (e : End) → Written (wrote c 0) (OrLeft (Unit {0}) (Exactly (Line c ∷ []) Done)) ys e → ⊥
half ys e (xs, g, inl run, none, inl (well, text, end)) = whole_written (subst (λ l. c ≡ rendering_of l) run.0 text)
half ys e (xs, g, inr (cut, inl (nothing, idle)), none, inl (well, text, end)) = nothing_written (subst (λ l. c ≡ rendering_of l) nothing text)
half ys e (xs, g, inr (cut, inr (more, h, run)), none, inl (well, text, end)) = elim (front_of_one xs more (Line c) run.0) [
  | inl nothing ↦ nothing_written (subst (λ l. c ≡ rendering_of l) nothing text)
  | inr whole ↦ whole_written (subst (λ l. c ≡ rendering_of l) whole text)
]
half ys e (xs, g, run, none, inr (failed, front, end)) = cc

module _ (t : Values) (w : ℕ → DeviceTold) where
  -- the pairs of two and one element are one, and it ends as the shorter side
  zip_short : (p q : _) → IsRun t w (Zip' p two q one) (Row (a ∷ c ∷ []) ∷ []) Done
  zip_short p q = inl (map Line (a ∷ b ∷ []), map Line (c ∷ []), Done, Done, inl (refl, refl), inl (refl, refl), refl, inr (omega arith, refl))

  -- a side that fails ends the pairs only where its next element is wanted: here that of the first side
  zip_fails : (p q r s : _) → IsRun t w (Zip' p (Append' q one r (Raise 7)) s two) (Row (c ∷ a ∷ []) ∷ []) (Fault (code.Raised 7))
  zip_fails p q r s =
      inl (
        map Line (c ∷ []),
        map Line (a ∷ b ∷ []),
        Fault (code.Raised 7),
        Done,
        inl (inr (map Line (c ∷ []), [], Done, inl (refl, refl), refl, inl (refl, refl), refl)),
        inl (refl, refl),
        refl,
        inl (omega arith, refl),
      )

  -- of the second side as many elements are wanted as the first one has, so its fault behind them stays unseen
  zip_unseen : (p q r s : _) (zs : List Element) (e : End) → IsIdealRun t w (Zip' p one q (Append' r two s (Raise 7))) zs e → e ≡ Done
  zip_unseen p q r s zs e (xs, ys, h, g, left, inl (f, never, idle), pairs, end) = absurd (never f.1)
  zip_unseen p q r s zs e (xs, ys, h, g, left, inr (us, vs, i, f, done, k, whole), pairs, inl (few, end)) = end ∙ left.1
  zip_unseen p q r s zs e (xs, ys, h, g, left, inr (us, vs, i, f, done, k, whole), pairs, inr (many, end)) =
      let m = ap length whole in let n = ap length left.0 in let o = ap length f.0 in let j = ap length k.0 in absurd (grind arith)

  -- what two sides give comes in any order that keeps that of each
  merge_orders : (p q : _) → IsRun t w (Merge' p two q one) (map Line (a ∷ c ∷ b ∷ [])) Done
  merge_orders p q =
      inl (
        map Line (a ∷ b ∷ []),
        map Line (c ∷ []),
        Done,
        Done,
        inl (inl (refl, refl)),
        inl (inl (refl, refl)),
        inl (map Line (b ∷ []), refl, inr ([], refl, inl ([], refl, (refl, refl)))),
        (refl, refl),
      )

  -- b before a isn't the order of the first side
  merge_keeps_order : (p q : _) (e : End) → IsIdealRun t w (Merge' p two q one) (map Line (b ∷ c ∷ a ∷ [])) e → ⊥
  merge_keeps_order p q e (xs, ys, h, g, inl l, inl r, inl (more, is, i), end) = grind arith
  merge_keeps_order p q e (xs, ys, h, g, inl l, inl r, inr (more, is, i), end) = grind arith
  merge_keeps_order p q e (xs, ys, h, g, inl l, inr (f, r), i, end) = subst IsFault l.1 f
  merge_keeps_order p q e (xs, ys, h, g, inr (f, l), inl r, i, end) = subst IsFault r.1 f
  merge_keeps_order p q e (xs, ys, h, g, inr (f, l), inr (j, r), i, end) = elim l [ inl m ↦ subst IsFault m.1 j | inr m ↦ subst IsFault m.0 j ]

  -- a side that fails ends both, also where nothing else is left: the other side is
  merge_fails : (p q r s : _) → IsIdealRun t w (Merge' p (Append' q one r (Raise 7)) s two) (map Line (a ∷ c ∷ [])) (Fault (code.Raised 7))
  merge_fails p q r s = (
    map Line (c ∷ []),
    map Line (a ∷ []),
    Fault (code.Raised 7),
    Cut,
    inl (inr (map Line (c ∷ []), [], Done, (refl, refl), refl, (refl, refl), refl)),
    inr (tt, inr (refl, inr (map Line (b ∷ []), Done, (refl, refl)))),
    inr (map Line [], refl, inl ([], refl, (refl, refl))),
    inl refl,
  )

  -- it isn't done where a side failed
  merge_not_done : (p q : _) (zs : List Element) → IsIdealRun t w (Merge' p (Raise 7) q two) zs Done → ⊥
  merge_not_done p q zs (xs, ys, h, g, inl l, right, i, end) = cc
  merge_not_done p q zs (xs, ys, h, g, inr (f, l), right, i, end) = subst IsFault end.1 f

module _ (t : Values) where
  -- all texts are written
  into_whole : (r : _) → IsRun t (λ p. wrote (codes "c\n") 0) (Into' 0 r one) [] Done
  into_whole r = inl (map Line (c ∷ []), Done, inl (refl, refl), refl, inl (refl, refl, refl))

  -- a write that fails ends it, behind a front of the texts
  into_broken : (r : _) → IsRun t (λ p. wrote (codes "a\nb") 1) (Into' 0 r two) [] (Fault code.Write)
  into_broken r = inl (map Line (a ∷ b ∷ []), Done, inl (refl, refl), refl, inr (refl, (codes "\n", refl), refl))

  -- where no write failed, whole texts were written, also by what was left
  into_half : (r : _) (ys : List Element) (e : End) → IsRun t (λ p. wrote c 0) (Into' 0 r one) ys e → ⊥
  into_half r ys e (inl run) = half ys e run
  into_half r ys e (inr (cut, inl (none, idle))) = cc
  into_half r ys e (inr (cut, inr (more, g, run))) = half (ys ++ more) g run

  -- what never began wrote nothing
  into_idle : (p q r : _) → IsRun t (λ p. wrote [] 0) (Append' p (Raise 7) q (Into' 0 r one)) [] (Fault (code.Raised 7))
  into_idle p q r = inl (inl (inl (refl, refl), (λ h. (cc)), (refl, tt)))

  -- where something was written, no run says that it never began
  never_begun : (p q r : _) (ys : List Element) (e : End) → IsIdealRun t (λ p. wrote c 0) (Append' p (Raise 7) q (Into' 0 r one)) ys e → ⊥
  never_begun p q r ys e (inl (run, never, idle)) = cc
  never_begun p q r ys e (inr (xs, zs, g, run, done, into, whole)) = cc

  -- nor that it was left before
  left_unbegun : (p q r : _) → IsRun t (λ p. wrote c 0) (Append' p (Raise 7) q (Into' 0 r one)) [] Cut → ⊥
  left_unbegun p q r (inl (inl (run, never, idle))) = cc
  left_unbegun p q r (inl (inr (xs, zs, g, inl run, done, into, whole))) = cc
  left_unbegun p q r (inl (inr (xs, zs, g, inr run, done, into, whole))) = let cut = run.0 in (cc)
  left_unbegun p q r (inr (cut, inl (none, idle))) = let unwritten = idle.1.0 in (cc)
  left_unbegun p q r (inr (cut, inr (more, g, inl (run, never, idle)))) = cc
  left_unbegun p q r (inr (cut, inr (more, g, inr (xs, zs, h, inl run, done, into, whole)))) = cc
  left_unbegun p q r (inr (cut, inr (more, g, inr (xs, zs, h, inr run, done, into, whole)))) = let left = run.0 in (cc)

  -- a part that never ran, behind a taker that had enough, gives what it would have given: its device was never opened
  enough : (p q r s u : _) → IsIdealRun t (λ p. unopened a) (Take' 1 p (Append' q (Weak' 0 r (Read 0)) s (Weak' 1 u (Read 1)))) (map Byte a) Done
  enough p q r s u = (
    map Byte (a ++ a),
    Done,
    inr (map Byte a, map Byte a, Done, inl (omega arith, refl, refl), refl, inl (omega arith, refl, refl), refl),
    inl (omega arith, refl, refl),
  )
