-- The number of elements.
use Rattle.std.specs.Prelude.{ℕ, List, [], ◌∷◌, length, Option, Some, decimal}
use Rattle.chunk_core.specs.Elements.{Element, Line, LoadKind}
use Rattle.chunk_core.specs.Elements.LoadKind.{Lines}
use Rattle.pull_nodes.specs.PipeRule.{PipeRule, without_fault}
use Rattle.pull_nodes.specs.Plain.{capped_number}
use Rattle.pull_nodes.specs.declared.kind.Kind.TheVariants as kind

-- the number of the elements
abbrev pub count_line : List Element → List ℕ
count_line xs = decimal (capped_number (length xs))

-- lines of each kind
abbrev pub always_lines : LoadKind → Option LoadKind
always_lines k = Some Lines

-- one line at the end
abbrev pub count_rule : PipeRule
count_rule = record {
  gives = always_lines;
  of_nothing = kind.Lines;
  part = λ xs. without_fault [];
  all = λ xs. without_fault (Line (count_line xs) ∷ []);
}
