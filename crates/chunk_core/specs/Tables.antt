-- What tables have.
use Rattle.std.specs.Prelude.{ℕ, List, Option, None}

-- the value that a table, by its number, has for a key, or none where it has none
abbrev pub Values : Type 0
Values = ℕ → List ℕ → Option (List ℕ)

-- no table has a value
abbrev pub no_values : Values
no_values t key = None
