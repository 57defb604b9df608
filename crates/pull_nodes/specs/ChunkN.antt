-- Elements in groups of so many.
use Rattle.std.specs.Prelude.{ℕ, max, List, take, length}
use Rattle.chunk_core.specs.Elements.{Element}
use Rattle.pull_nodes.specs.PipeRule.{PipeRule, same_kind, without_fault}
use Rattle.pull_nodes.specs.Plain.{multiple}
use Rattle.pull_nodes.specs.declared.kind.Kind.TheVariants as kind

-- the size of a group, which isn't 0
abbrev pub group_size : ℕ → ℕ
group_size n = max n 1

-- the elements that fill groups of n
abbrev pub whole_groups : ℕ → List Element → List Element
whole_groups n xs = take (multiple (group_size n) (length xs)) xs

-- those in whole groups, and at the end the others too
abbrev pub chunk_rule : ℕ → PipeRule
chunk_rule n = record {
  gives = same_kind;
  of_nothing = kind.Any;
  part = λ xs. without_fault (whole_groups n xs);
  all = λ xs. without_fault xs;
}
