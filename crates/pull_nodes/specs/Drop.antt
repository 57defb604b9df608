-- All but the first elements.
use Rattle.std.specs.Prelude.{ℕ, drop}
use Rattle.pull_nodes.specs.PipeRule.{PipeRule, same_kind, without_fault}
use Rattle.pull_nodes.specs.declared.kind.Kind.TheVariants as kind

-- those behind the first n
abbrev pub drop_rule : ℕ → PipeRule
drop_rule n = record {
  gives = same_kind;
  of_nothing = kind.Any;
  part = λ xs. without_fault (drop n xs);
  all = λ xs. without_fault (drop n xs);
}
