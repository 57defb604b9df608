-- Letters as capitals.
use Rattle.std.specs.Prelude.{map, Option, Some, None}
use Rattle.std.specs.Char.{to_ascii_uppercase}
use Rattle.chunk_core.specs.Elements.{Element, Byte, Line, Row, LoadKind}
use Rattle.chunk_core.specs.Elements.LoadKind.{Bytes, Lines, Rows}
use Rattle.pull_nodes.specs.PipeRule.{PipeRule, without_fault}
use Rattle.pull_nodes.specs.declared.kind.Kind.TheVariants as kind

-- a to z as A to Z, in a byte or a line
abbrev pub uppercase_of : Element → Element
uppercase_of (Byte b) = Byte (to_ascii_uppercase b)
uppercase_of (Line line) = Line (map to_ascii_uppercase line)
uppercase_of (Row fields) = Row fields

-- bytes and lines as such, and no rows
abbrev pub same_but_rows : LoadKind → Option LoadKind
same_but_rows Bytes = Some Bytes
same_but_rows Lines = Some Lines
same_but_rows Rows = None

-- each element in its place
abbrev pub upper_rule : PipeRule
upper_rule = record {
  gives = same_but_rows;
  of_nothing = kind.Any;
  part = λ xs. without_fault (map uppercase_of xs);
  all = λ xs. without_fault (map uppercase_of xs);
}
