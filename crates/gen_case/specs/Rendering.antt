-- The steps of the case, over its files.
use Rattle.std.specs.Prelude.{◌≡◌, ℕ, ◌/◌, ◌≤◌, List, [], ◌∷◌, map, None}
use Rattle.chunk_core.specs.Elements.{Element, Row, rendering_of}
use Rattle.csv_pipes.specs.Dictionaries.{table_fault, table_value}
use Rattle.pull_nodes.specs.Csv.{csv_all}
use Rattle.pull_nodes.specs.Field.{each_made}
use Rattle.pull_nodes.specs.Lookup.{looked_up}
use Rattle.pull_nodes.specs.PipeRule.{without_fault}
use Rattle.run_rules.specs.Facts.{first_numbers}
use Rattle.gen_case.specs.Case.{digit, number_on, stream_text, table_text}
use Rattle.gen_case.specs.Ideal.{ideal_text}
use Rattle.gen_case.specs.declared.case.Case.{Case}

-- a number below 1,000 in three digits
abbrev pub three_digits : ℕ → List ℕ
three_digits n = digit (n / 100) ∷ digit (n / 10) ∷ digit n ∷ []

-- the one field of a line
abbrev pub line_row : ℕ → List (List ℕ)
line_row n = three_digits n ∷ []

-- the same and what the table has for it
abbrev pub record_row : ℕ → List (List ℕ)
record_row n = three_digits n ∷ (digit n ∷ []) ∷ []

-- the rows that `csv` makes of the file of stream k
abbrev pub rows_of : Case → ℕ → List Element
rows_of c k = map (λ i. Row (line_row (number_on c k i))) (first_numbers c.lines)

-- those that `lookup` makes of them
abbrev pub looked_up_rows : Case → ℕ → List Element
looked_up_rows c k = map (λ i. Row (record_row (number_on c k i))) (first_numbers c.lines)

-- what the steps give of a whole file, and its text
pub record RendersIdeal (c : Case) (k : ℕ) : Type 0 where
  pub csv : csv_all (stream_text c k) ≡ without_fault (rows_of c k)
  pub lookup : each_made (looked_up (table_value table_text) 0) (rows_of c k) ≡ without_fault (looked_up_rows c k)
  pub text : rendering_of (looked_up_rows c k) ≡ ideal_text c k

-- the table's file is a table
abbrev pub TableIsRead : Type 0
TableIsRead = table_fault table_text ≡ None

-- each stream of whole files gives its ideal text
abbrev pub StreamsRenderIdeal : Type 0
StreamsRenderIdeal = (c : Case) (k : ℕ) → c.lines ≤ 100000 → RendersIdeal c k
