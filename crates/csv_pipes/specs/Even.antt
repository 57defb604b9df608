-- The rows of one length that are left of a text.
use Rattle.std.specs.Prelude.{◌≡◌, ℕ, Bool, true, false, List, [], ◌∷◌, ◌++◌, length, Option, unwrap_or}
use Rattle.std.specs.List.{before_first, list_any}
use Rattle.pull_nodes.specs.Csv.{even_rows, is_uneven, has_other_length, first_length}
use Rattle.csv_pipes.specs.declared.even.Found.{Found}
use Rattle.csv_pipes.specs.declared.even.Found.TheVariants as found

-- rows, and whether a row of another length ends them
abbrev pub Rest : Type 0
Rest = List (List (List ℕ)) × Bool

-- the rows before the first of another length than this, or than the first row's where no length is known, and whether there is one
abbrev pub rest_of : Option ℕ → List (List (List ℕ)) → Rest
rest_of width rows = let other = has_other_length (unwrap_or width (first_length rows)) in (before_first other rows, list_any other rows)

-- those of all records
abbrev pub even_part : List (List (List ℕ)) → Rest
even_part rows = (even_rows rows, is_uneven rows)

-- the first of the rows is taken, or there is none and this is what ends them
abbrev pub TakesRow : Found → Rest → List (List ℕ) → Rest → Type 0
TakesRow found.Row old fields new = old ≡ (fields ∷ new.0, new.1)
TakesRow found.End old fields new = old ≡ ([], false)
TakesRow found.Uneven old fields new = old ≡ ([], true)

-- 1,024 rows are taken from the front, or all, and this is what ends them
abbrev pub TakesRows : Found → Rest → List (List (List ℕ)) → Rest → Type 0
TakesRows found.Row old rows new = (old ≡ (rows ++ new.0, new.1)) × (length rows ≡ 1024)
TakesRows found.End old rows new = old ≡ (rows, false)
TakesRows found.Uneven old rows new = old ≡ (rows, true)
