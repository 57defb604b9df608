-- What is taken down with a scope, by what a tree keeps.
use Rattle.std.specs.Prelude.{ℕ, suc, cond, nat_eq, List, [], ◌∷◌, ◌++◌, drop}
use Rattle.scope_tree.specs.declared.branch.Branch.{Branch}
use Rattle.scope_tree.specs.declared.branch.AcquiredRow.{AcquiredRow}

-- the rows of the scope s, latest first
abbrev pub lasts : List AcquiredRow → ℕ → List ℕ
lasts [] s = []
lasts (h ∷ hs) s = lasts hs s ++ cond (nat_eq h.scope s) (h.row ∷ []) []

-- the rows below s in the scopes from n on, latest first
abbrev pub kids : ℕ → List Branch → List AcquiredRow → ℕ → List ℕ
kids n [] hs s = []
kids n (b ∷ bs) hs s = kids (suc n) bs hs s ++ cond (nat_eq b.parent s) (cond b.shut [] (kids (suc n) bs hs n ++ lasts hs n)) []

abbrev pub whole : List Branch → List AcquiredRow → ℕ → List ℕ
whole bs hs s = kids (suc s) (drop (suc s) bs) hs s ++ lasts hs s
