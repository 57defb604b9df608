-- Lists of rows.
use Rattle.std.specs.Prelude.{ℕ, suc, Bool, nat_eq, not, filter, if◌then◌else◌, List, [], ◌∷◌}
use Rattle.std.specs.List.{IsDistinct, list_any as any}
use Rattle.std.specs.Map.{keys_of}
use Rattle.chunk_core.specs.Lists.{has}

-- no row stands twice
abbrev pub Once : {P : Type 0} → List (ℕ × P) → Type 0
Once xs = IsDistinct nat_eq (keys_of xs)

-- how many of the rows T are not among the rows own
abbrev pub strangers : List ℕ → List ℕ → ℕ
strangers own [] = 0
strangers own (r ∷ T) = if has r own then strangers own T else suc (strangers own T)

-- a lease of the list, in which each stands with its stream first, is on the row r
abbrev pub has_lease : List (ℕ × ℕ) → ℕ → Bool
has_lease pairs r = any (λ (x : ℕ × ℕ). nat_eq x.1 r) pairs

-- the rows T on which none stands
abbrev pub unleased : List (ℕ × ℕ) → List ℕ → List ℕ
unleased pairs T = filter (λ r. not (has_lease pairs r)) T
