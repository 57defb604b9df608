-- Lines behind their numbers.
use Rattle.std.specs.Prelude.{ℕ, ◌∷◌, ◌++◌, List, map, decimal}
use Rattle.std.specs.List.{enumerate_from}
use Rattle.chunk_core.specs.Elements.{Element, Byte, Line, Row}
use Rattle.chunk_core.specs.Elements.LoadKind.{Lines}
use Rattle.pull_nodes.specs.PipeRule.{PipeRule, from_lines, without_fault}
use Rattle.pull_nodes.specs.Plain.{capped_number}
use Rattle.pull_nodes.specs.declared.kind.Kind.TheVariants as kind

-- a line behind its number and a space
abbrev pub with_number : ℕ × Element → Element
with_number (n, Byte b) = Byte b
with_number (n, Line line) = Line (decimal (capped_number n) ++ 32 ∷ line)
with_number (n, Row fields) = Row fields

-- each line behind its number from 0
abbrev pub with_numbers : List Element → List Element
with_numbers xs = map with_number (enumerate_from 0 xs)

-- each line behind its number
abbrev pub number_rule : PipeRule
number_rule = record {
  gives = from_lines Lines;
  of_nothing = kind.Lines;
  part = λ xs. without_fault (with_numbers xs);
  all = λ xs. without_fault (with_numbers xs);
}
