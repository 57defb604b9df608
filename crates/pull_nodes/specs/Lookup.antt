-- Rows with the value that a table has for one of their fields.
use Rattle.std.specs.Prelude.{ℕ, List, [], ◌∷◌, ◌++◌, Option, option_map, unwrap_or}
use Rattle.chunk_core.specs.Elements.{Element, Row}
use Rattle.chunk_core.specs.Elements.LoadKind.{Rows}
use Rattle.pull_nodes.specs.Field.{fields_of, field_of, each_made}
use Rattle.pull_nodes.specs.PipeRule.{PipeRule, from_rows}
use Rattle.pull_nodes.specs.declared.kind.Kind.TheVariants as kind

-- the row with one field more at its end: the table's value for the key, or an empty one
abbrev pub with_value : (List ℕ → Option (List ℕ)) → Element → List ℕ → Element
with_value value x key = Row (fields_of x ++ unwrap_or (value key) [] ∷ [])

-- the same with its field i as the key, or none where it has none
abbrev pub looked_up : (List ℕ → Option (List ℕ)) → ℕ → Element → Option Element
looked_up value i x = option_map (with_value value x) (field_of i x)

-- each row with what its field i means in the table, up to the first row that has none
abbrev pub lookup_rule : (List ℕ → Option (List ℕ)) → ℕ → PipeRule
lookup_rule value i = record {
  gives = from_rows Rows;
  of_nothing = kind.Rows;
  part = λ xs. each_made (looked_up value i) xs;
  all = λ xs. each_made (looked_up value i) xs;
}
