-- What is kept of the scopes of each stream.
use Rattle.std.specs.Prelude.{ℕ, Bool, ◌&&◌, not, nat_eq, if◌then◌else◌, List, [], ◌∷◌, ◌++◌}
use Rattle.chunk_core.specs.Lists.{has}
use Rattle.res_ledger.specs.declared.event.StreamNo.{StreamNo}
use Rattle.res_ledger.specs.declared.event.Event.{Event}
use Rattle.res_ledger.specs.Own.{own, opens, rows, closes}
use Rattle.ledger_books.specs.Keyed.{number_of}
use Rattle.ledger_audit.specs.declared.trees.Trees.{Trees}
use Rattle.ledger_audit.specs.Lists.{IsList}

-- the first numbers of the pairs whose second is s
abbrev pub of_scope : List (ℕ × ℕ) → ℕ → List ℕ
of_scope [] s = []
of_scope (x ∷ xs) s = if nat_eq x.1 s then x.0 ∷ of_scope xs s else of_scope xs s

-- of each scope the scopes below it and its rows, in the order in which they came
pub record HasTrees (t : Trees) (P : List Event) : Type 0 where
  pub kids : (k : StreamNo) (s : ℕ) → IsList t.kids (number_of k) s (of_scope (opens (own k P)) s)
  pub rows : (k : StreamNo) (s : ℕ) → IsList t.rows (number_of k) s (of_scope (rows (own k P)) s)

-- the scope c has no Close of its own in what k noted
abbrev pub is_unshut : List Event → StreamNo → ℕ → Bool
is_unshut P k c = not (has c (closes (own k P)))

-- what f tells of the scopes below s that aren't shut, those that were opened first in front
abbrev pub raised : List (ℕ × ℕ) → (ℕ → Bool) → (ℕ → List ℕ) → ℕ → List ℕ
raised [] shut f s = []
raised (o ∷ os) shut f s = (if nat_eq o.1 s && not (shut o.0) then f o.0 ++ raised os shut f o.0 else []) ++ raised os shut f s

-- the same of s and those below it
abbrev pub raised_from : List (ℕ × ℕ) → (ℕ → Bool) → (ℕ → List ℕ) → ℕ → List ℕ
raised_from os shut f s = f s ++ raised os shut f s
