-- What leasing rows does to the view of a seat.
use Rattle.std.specs.Prelude.{ℕ, List, [], ◌∷◌, ◌++◌}
use Rattle.row_seat.specs.declared.view.View.{View}

-- leases for the stream j on the rows T
abbrev pub pairs_for : ℕ → List ℕ → List (ℕ × ℕ)
pairs_for j [] = []
pairs_for j (r ∷ T) = (j, r) ∷ pairs_for j T

-- the rows T are leased for the stream j
abbrev pub leased_all : {P : Type 0} → View P → ℕ → List ℕ → View P
leased_all v j T = record v { pairs = v.pairs ++ pairs_for j T }
