-- The places of a node, one after the other.
use Rattle.std.specs.Prelude.{ℕ, min, List, [], ◌∷◌, Option, Some, None, unwrap_or}

-- the lesser of two numbers, where they are there
abbrev pub lesser_of : Option ℕ → Option ℕ → Option ℕ
lesser_of None q = q
lesser_of (Some p) None = Some p
lesser_of (Some p) (Some q) = Some (min p q)

-- the least of the numbers, where there are any
abbrev pub least : List ℕ → Option ℕ
least [] = None
least (p ∷ ps) = lesser_of (Some p) (least ps)

-- the least of the numbers, or 0
abbrev pub first_of : List ℕ → ℕ
first_of ps = unwrap_or (least ps) 0
