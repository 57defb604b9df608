-- Calls, and calls after them, are calls.
use Rattle.std.proofs.Common.{ℕ, Bool, List, [], ◌∷◌, ◌++◌, sym, subst, append_assoc}
use Rattle.std.proofs.lemmas.List.{append-nil}
use Rattle.chunk_core.specs.declared.code.Exit.{Exit}
use Rattle.scope_tree.specs.Calls.{Seen}
use Rattle.tree_laws.specs.Called.{Called}
use Rattle.tree_laws.specs.Called.Called.{none, opened, acquired, written, leased, cancelled, closed, split, taken_in}

module _ {P : Type 0} where
  pub called_then : {ends : P → Exit → Bool → P → Type 0} {a b c : Seen P} {Cs Ds : List (ℕ × List ℕ)} → Called ends a Cs b → Called ends b Ds c → Called ends a (Cs ++ Ds) c
  called_then {ends = ends} {a = a} {b = b} {Cs = Cs} k none = subst (λ l. Called ends a l b) (sym (append-nil Cs)) k
  called_then k (opened b c at s h m o) = opened b c at s (called_then k h) m o
  called_then k (acquired b c s r p h m o) = acquired b c s r p (called_then k h) m o
  called_then k (written b c r p h m o) = written b c r p (called_then k h) m o
  called_then k (leased b c s j T h m o) = leased b c s j T (called_then k h) m o
  called_then {ends = ends} {a = a} {Cs = Cs} k (cancelled {Cs = Ds} b c j T x h m o) = subst (λ l. Called ends a l c) (append_assoc Cs Ds ((j, T) ∷ [])) (cancelled b c j T x (called_then k h) m o)
  called_then k (closed b c s x h m o) = closed b c s x (called_then k h) m o
  called_then k (split b c j from to n h m o) = split b c j from to n (called_then k h) m o
  called_then k (taken_in b c w h m p o) = taken_in b c w (called_then k h) m p o
