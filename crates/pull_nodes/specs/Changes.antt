-- Elements that differ from the one before them.
use Rattle.std.specs.Prelude.{Bool, false, nat_eq, if◌then◌else◌, List, [], ◌∷◌, Option, Some, None}
use Rattle.std.specs.Str.{bytes_eq}
use lib.Pointwise.{pointwise}
use Rattle.chunk_core.specs.Elements.{Element, Byte, Line, Row, LoadKind}
use Rattle.chunk_core.specs.Elements.LoadKind.{Bytes, Lines, Rows}
use Rattle.pull_nodes.specs.PipeRule.{PipeRule, without_fault}
use Rattle.pull_nodes.specs.declared.kind.Kind.TheVariants as kind

-- two elements are the same
abbrev pub same_element : Element → Element → Bool
same_element (Byte a) (Byte b) = nat_eq a b
same_element (Line a) (Line b) = bytes_eq a b
same_element (Row a) (Row b) = pointwise bytes_eq a b
same_element x y = false

-- those that differ from the one before them; y stands before the first
abbrev pub changes_after : Element → List Element → List Element
changes_after y [] = []
changes_after y (x ∷ xs) = if same_element y x then changes_after x xs else (x ∷ changes_after x xs)

-- the first, and those that differ from the one before them
abbrev pub changes : List Element → List Element
changes [] = []
changes (x ∷ xs) = x ∷ changes_after x xs

-- lines and rows as such, and no bytes
abbrev pub same_but_bytes : LoadKind → Option LoadKind
same_but_bytes Bytes = None
same_but_bytes Lines = Some Lines
same_but_bytes Rows = Some Rows

-- those of the elements, and the first
abbrev pub changes_rule : PipeRule
changes_rule = record {
  gives = same_but_bytes;
  of_nothing = kind.Any;
  part = λ xs. without_fault (changes xs);
  all = λ xs. without_fault (changes xs);
}
