-- What an audit tells of a ledger.
use Rattle.std.specs.Prelude.{◌≡◌, ◌≤◌, ℕ, Bool, true, List, [], ◌∷◌, ◌++◌, length, reverse}
use Rattle.chunk_core.specs.Lists.{has}
use Rattle.chunk_core.specs.declared.code.Exit.{Exit}
use Rattle.res_ledger.specs.declared.event.StreamNo.{StreamNo}
use Rattle.res_ledger.specs.declared.event.Event.{Event}
use Rattle.res_ledger.specs.Ledger.{IsLegal}
use Rattle.res_ledger.specs.Own.{own}
use Rattle.res_ledger.specs.Order.{IsInBlocks, IsOrdered, covered, covered_by, finals}
use Rattle.res_ledger.specs.Whole.{IsComplete}
use Rattle.ledger_verdict.specs.declared.verdict.Rule.TheVariants.{Legal, Ordered, Complete}
use Rattle.ledger_verdict.specs.declared.verdict.Verdict.{Verdict}
use Rattle.ledger_verdict.specs.declared.verdict.Verdict.TheVariants.{Clean, Broken}

-- what k noted stands in blocks, or does so with further Finals behind it
abbrev pub IsInOrderSoFar : List Event → StreamNo → Type 0
IsInOrderSoFar L k = (x : Exit) × (fs : List (ℕ × Bool)) × IsInBlocks (λ r. has r (covered L) ≡ true) (λ j. reverse (covered_by L j)) [] (own k L ++ finals x fs)

-- what each stream noted stands in blocks, or does so once its last Close or Cancel has the Finals that it still lacks
abbrev pub IsOrderedSoFar : List Event → Type 0
IsOrderedSoFar L = (k : StreamNo) → IsInOrderSoFar L k

-- each front of at most i events is legal and ordered so far
abbrev pub IsSoundUpTo : List Event → ℕ → Type 0
IsSoundUpTo L i = (P Q : List Event) → L ≡ P ++ Q → length P ≤ i → IsLegal P × IsOrderedSoFar P

-- the event at place i stands behind P and breaks the rule
abbrev pub IsBrokenAt : List Event → ℕ → (List Event → Type 0) → Type 0
IsBrokenAt L i Breaks = IsSoundUpTo L i × ((P Q : List Event) × (e : Event) × (L ≡ P ++ e ∷ Q) × (length P ≡ i) × Breaks (P ++ e ∷ []))

-- the verdict on a ledger: the first event that breaks a rule; where none does, whether all was ended
abbrev pub IsVerdict : List Event → Verdict → Type 0
IsVerdict L Clean = IsLegal L × IsComplete L × IsOrdered L
IsVerdict L (Broken i Legal) = IsBrokenAt L i (λ P. ¬ (IsLegal P))
IsVerdict L (Broken i Ordered) = IsBrokenAt L i (λ P. IsLegal P × ¬ (IsOrderedSoFar P))
IsVerdict L (Broken i Complete) = (i ≡ length L) × IsLegal L × IsOrderedSoFar L × ¬ (IsComplete L)

-- a ledger that is legal, complete and ordered so far is ordered
abbrev pub OrderedSoFarIsOrdered : Type 0
OrderedSoFarIsOrdered = (L : List Event) → IsLegal L → IsComplete L → IsOrderedSoFar L → IsOrdered L

-- a front of a legal ledger that is ordered so far is ordered so far
abbrev pub FrontIsOrderedSoFar : Type 0
FrontIsOrderedSoFar = (P Q : List Event) → IsLegal (P ++ Q) → IsOrderedSoFar (P ++ Q) → IsOrderedSoFar P

-- a ledger has one verdict
abbrev pub VerdictIsOne : Type 0
VerdictIsOne = (L : List Event) (v w : Verdict) → IsVerdict L v → IsVerdict L w → v ≡ w

-- a ledger has a verdict
abbrev pub ThereIsAVerdict : Type 0
ThereIsAVerdict = (L : List Event) → (v : Verdict) × IsVerdict L v
