-- Rows of comma-separated values.
use Rattle.std.specs.Prelude.{ℕ, Bool, not, ◌==◌, if◌then◌else◌, nat_lt, List, [], ◌∷◌, length, map, Option, Some, None}
use Rattle.std.specs.List.{before_first, list_any}
use Rattle.std.specs.Str.{is_utf8}
use Rattle.csv.specs.Reading.{records, default_config, strip_bom}
use Rattle.chunk_core.specs.Elements.{Row}
use Rattle.chunk_core.specs.Elements.LoadKind.{Rows}
use Rattle.chunk_core.specs.Feed.{Given}
use Rattle.chunk_core.specs.declared.code.Code.{Code}
use Rattle.chunk_core.specs.declared.code.Code.TheVariants as code
use Rattle.pull_nodes.specs.PipeRule.{PipeRule, from_bytes, without_fault, only_fault}
use Rattle.pull_nodes.specs.Plain.{bytes_of}
use Rattle.pull_nodes.specs.declared.kind.Kind.TheVariants as kind

-- the most bytes that are gathered
abbrev pub most_gathered : ℕ
most_gathered = 16777216

-- more bytes than that
abbrev pub is_too_large : List ℕ → Bool
is_too_large xs = nat_lt most_gathered (length xs)

-- the fields of each record of a text, behind a byte order mark where it begins with one; the first record is one as the others
abbrev pub records_of : List ℕ → List (List (List ℕ))
records_of text = records default_config (strip_bom text)

-- the row has another number of fields
abbrev pub has_other_length : ℕ → List (List ℕ) → Bool
has_other_length n fields = not (length fields == n)

-- the number of fields of the first row, or 0 where there is none
abbrev pub first_length : List (List (List ℕ)) → ℕ
first_length [] = 0
first_length (fields ∷ rows) = length fields

-- the rows before the first that has another number of fields than the first of all
abbrev pub even_rows : List (List (List ℕ)) → List (List (List ℕ))
even_rows rows = before_first (has_other_length (first_length rows)) rows

-- there is such a row
abbrev pub is_uneven : List (List (List ℕ)) → Bool
is_uneven rows = list_any (has_other_length (first_length rows)) rows

-- a fault where there is such a row
abbrev pub uneven_fault : Bool → Option Code
uneven_fault uneven = if uneven then Some code.Uneven else None

-- the rows before the first of another length, and a fault where there is one
abbrev pub rows_given : List (List (List ℕ)) → Given
rows_given rows = record { list = map Row (even_rows rows); fault = uneven_fault (is_uneven rows) }

-- nothing, and a fault once too much was gathered
abbrev pub csv_part : List ℕ → Given
csv_part xs = if is_too_large xs then only_fault code.TooLarge else without_fault []

-- the rows of the whole text, where it isn't too large and is UTF-8
abbrev pub csv_all : List ℕ → Given
csv_all xs = if is_too_large xs then only_fault code.TooLarge else (if is_utf8 xs then rows_given (records_of xs) else only_fault code.NotUtf8)

-- nothing before the end, and then the rows
abbrev pub csv_rule : PipeRule
csv_rule = record {
  gives = from_bytes Rows;
  of_nothing = kind.Rows;
  part = λ xs. csv_part (bytes_of xs);
  all = λ xs. csv_all (bytes_of xs);
}
