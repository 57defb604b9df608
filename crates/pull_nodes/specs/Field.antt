-- One field of each row.
use Rattle.std.specs.Prelude.{ℕ, List, [], ◌∷◌, Option, Some, None, option_map}
use Rattle.std.specs.List.{slice_get}
use Rattle.chunk_core.specs.Elements.{Element, Byte, Line, Row}
use Rattle.chunk_core.specs.Elements.LoadKind.{Lines}
use Rattle.chunk_core.specs.Feed.{Given}
use Rattle.chunk_core.specs.declared.code.Code.TheVariants as code
use Rattle.pull_nodes.specs.PipeRule.{PipeRule, from_rows, without_fault, only_fault}
use Rattle.pull_nodes.specs.declared.kind.Kind.TheVariants as kind

-- the fields of a row, and none of other elements
abbrev pub fields_of : Element → List (List ℕ)
fields_of (Byte b) = []
fields_of (Line line) = []
fields_of (Row fields) = fields

-- the field i of a row, from 0, or none where it has none
abbrev pub field_of : ℕ → Element → Option (List ℕ)
field_of i x = slice_get (fields_of x) i

-- an element in front of what is given, or where there is none nothing more than a fault
abbrev pub or_no_field : Option Element → Given → Given
or_no_field None more = only_fault code.NoField
or_no_field (Some y) more = record { list = y ∷ more.list; fault = more.fault }

-- what `made` makes of each element, up to the first of which it makes nothing: there is a fault
abbrev pub each_made : (Element → Option Element) → List Element → Given
each_made made [] = without_fault []
each_made made (x ∷ xs) = or_no_field (made x) (each_made made xs)

-- the field i of a row as a line
abbrev pub field_line : ℕ → Element → Option Element
field_line i x = option_map Line (field_of i x)

-- the field i of each row, up to the first row that has none
abbrev pub field_rule : ℕ → PipeRule
field_rule i = record {
  gives = from_rows Lines;
  of_nothing = kind.Lines;
  part = λ xs. each_made (field_line i) xs;
  all = λ xs. each_made (field_line i) xs;
}
