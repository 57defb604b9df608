-- Words on lists that the library has not.
use Rattle.std.specs.Prelude.{ℕ, Bool, true, ◌&&◌, not, nat_eq, List, [], ◌∷◌}
use Rattle.std.specs.List.{list_any as any}

-- x stands in the list
pub data IsAmong {A : Type 0} (x : A) : List A → Type 0 where
  here : (xs : List A) → IsAmong x (x ∷ xs)
  there : {xs : List A} (y : A) → IsAmong x xs → IsAmong x (y ∷ xs)

-- a test of it, for a number
abbrev pub has : ℕ → List ℕ → Bool
has x ys = any (nat_eq x) ys

-- a test whether no number stands twice
abbrev pub are_distinct : List ℕ → Bool
are_distinct [] = true
are_distinct (x ∷ xs) = not (has x xs) && are_distinct xs
