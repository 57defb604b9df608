-- The ends of rows, with their exits.
use Rattle.std.specs.Prelude.{ℕ, Bool, flat_map, List, [], ◌∷◌}
use Rattle.chunk_core.specs.declared.code.Exit.{Exit}
use Rattle.res_ledger.specs.declared.event.What.{What}
use Rattle.res_ledger.specs.declared.event.What.TheVariants.{Final}
use Rattle.scope_tree.specs.declared.branch.Spent.{Spent}

-- the row that an event ends, with its exit and its outcome
abbrev pub finals_of : What → List (ℕ × Exit × Bool)
finals_of (Final r x ok) = (r, x, ok) ∷ []
finals_of w = []

-- the Finals that were noted, in order
abbrev pub noted_ends : List What → List (ℕ × Exit × Bool)
noted_ends E = flat_map finals_of E

-- the rows on a shelf, in order
abbrev pub shelf_ends : {P : Type 0} → List (Spent P) → List (ℕ × Exit × Bool)
shelf_ends [] = []
shelf_ends (y ∷ ys) = (y.row, y.exit, y.ok) ∷ shelf_ends ys
