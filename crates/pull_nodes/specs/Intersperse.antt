-- A line between each two.
use Rattle.std.specs.Prelude.{ℕ, List, [], ◌∷◌}
use Rattle.std.specs.List.{flat_map}
use Rattle.chunk_core.specs.Elements.{Element, Line}
use Rattle.chunk_core.specs.Elements.LoadKind.{Lines}
use Rattle.pull_nodes.specs.PipeRule.{PipeRule, from_lines, without_fault}
use Rattle.pull_nodes.specs.declared.kind.Kind.TheVariants as kind

-- the line with_between each two
abbrev pub with_between : List ℕ → List Element → List Element
with_between line [] = []
with_between line (x ∷ xs) = x ∷ flat_map (λ y. Line line ∷ y ∷ []) xs

-- the lines, and those between
abbrev pub intersperse_rule : List ℕ → PipeRule
intersperse_rule line = record {
  gives = from_lines Lines;
  of_nothing = kind.Lines;
  part = λ xs. without_fault (with_between line xs);
  all = λ xs. without_fault (with_between line xs);
}
