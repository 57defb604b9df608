-- Lines that contain a text.
use Rattle.std.specs.Prelude.{ℕ, Bool, false, ◌||◌, nat_eq, List, [], ◌∷◌, filter}
use Rattle.std.specs.List.{starts_with}
use Rattle.chunk_core.specs.Elements.{Element, Byte, Line, Row}
use Rattle.chunk_core.specs.Elements.LoadKind.{Lines}
use Rattle.pull_nodes.specs.PipeRule.{PipeRule, from_lines, without_fault}
use Rattle.pull_nodes.specs.declared.kind.Kind.TheVariants as kind

-- the text stands somewhere in the line
abbrev pub contains : List ℕ → List ℕ → Bool
contains text [] = starts_with nat_eq [] text
contains text (b ∷ line) = starts_with nat_eq (b ∷ line) text || contains text line

-- a line that contains the text
abbrev pub is_match : List ℕ → Element → Bool
is_match text (Byte b) = false
is_match text (Line line) = contains text line
is_match text (Row fields) = false

-- those of the lines
abbrev pub filter_rule : List ℕ → PipeRule
filter_rule text = record {
  gives = from_lines Lines;
  of_nothing = kind.Lines;
  part = λ xs. without_fault (filter (is_match text) xs);
  all = λ xs. without_fault (filter (is_match text) xs);
}
