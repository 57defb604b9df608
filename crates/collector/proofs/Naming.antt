-- The line of a stream of the list.
use Rattle.std.proofs.Common.{◌≡◌, ℕ, zero, suc, ◌+◌, ◌-◌, ◌<◌, ◌≤◌, Bool, true, false, if◌then◌else◌, List, [], ◌∷◌, ◌++◌, length, Option, Some, None, refl, sym, ◌∙◌, ap, subst, arith, slice_get, nat_lt, ltb-true, ltb-false}
use Rattle.std.specs.Prelude.{IsSome}
use Rattle.pipeline_desc.specs.Meant.{PlanMeant}
use Rattle.dealt_streams.specs.Parts.{line_at}
use Rattle.collector.proofs.Lists.{there_is}

-- a stream of the list that was given has a line
pub line_there : (p : PlanMeant) (lines : List (List ℕ)) (k : ℕ) (path : Option (List ℕ)) → path ≡ line_at p lines k → length p.streams ≤ k → k < length p.streams + length lines → IsSome path
line_there p lines k path is behind less = subst (λ o. IsSome o) (sym is) (by_test (nat_lt k (length p.streams)) refl)
  where
    by_test : (b : Bool) → nat_lt k (length p.streams) ≡ b → IsSome (if b then None else slice_get lines (k - length p.streams))
    by_test true e = let l = ltb-true k (length p.streams) e in absurd (omega (arith, l, behind))
    by_test false e = let l = there_is lines (k - length p.streams) (omega (arith, behind, less)) in subst (λ o. IsSome o) (sym l.1) refl

-- one that is described has none
pub own_line : (p : PlanMeant) (lines : List (List ℕ)) (k : ℕ) → k < length p.streams → line_at p lines k ≡ None
own_line p lines k less = ap (λ b. if b then None else slice_get lines (k - length p.streams)) (lt_true k (length p.streams) less)
  where
    lt_true : (i j : ℕ) → i < j → nat_lt i j ≡ true
    lt_true i j l = grind (arith, l)

-- the line that was given last is that of the stream behind the others
pub line_of_last : (p : PlanMeant) (lines : List (List ℕ)) (line : List ℕ) (k : ℕ) → k ≡ length p.streams + length lines → Some line ≡ line_at p (lines ++ line ∷ []) k
line_of_last p lines line k is = by_test (nat_lt k (length p.streams)) refl
  where
    place : k - length p.streams ≡ length lines
    place = omega (arith, is)

    last : (xs : List (List ℕ)) → slice_get (xs ++ line ∷ []) (length xs) ≡ Some line
    last [] = refl
    last (x ∷ xs) = last xs

    by_test : (b : Bool) → nat_lt k (length p.streams) ≡ b → Some line ≡ (if b then None else slice_get (lines ++ line ∷ []) (k - length p.streams))
    by_test true e = let l = ltb-true k (length p.streams) e in absurd (omega (arith, l, is))
    by_test false e = sym (ap (λ i. slice_get (lines ++ line ∷ []) i) place ∙ last lines)

-- and the others have theirs still
pub line_older : (p : PlanMeant) (lines : List (List ℕ)) (line : List ℕ) (k : ℕ) → k < length p.streams + length lines → line_at p lines k ≡ line_at p (lines ++ line ∷ []) k
line_older p lines line k less = by_test (nat_lt k (length p.streams)) refl
  where
    older : (xs : List (List ℕ)) (i : ℕ) → i < length xs → slice_get xs i ≡ slice_get (xs ++ line ∷ []) i
    older [] i l = absurd (omega (arith, l))
    older (x ∷ xs) zero l = refl
    older (x ∷ xs) (suc i) l = older xs i (omega (arith, l))

    by_test : (b : Bool) → nat_lt k (length p.streams) ≡ b → (if b then None else slice_get lines (k - length p.streams)) ≡ (if b then None else slice_get (lines ++ line ∷ []) (k - length p.streams))
    by_test true e = refl
    by_test false e = let h = ltb-false k (length p.streams) e in older lines (k - length p.streams) (omega (arith, h, less))
