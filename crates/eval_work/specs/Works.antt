-- What hands make of a group.
use Rattle.std.specs.Prelude.{◌≡◌, true, map, List, Option, Some, None, IsSome}
use Rattle.std.specs.List.{list_all}
use Rattle.chunk_core.specs.Elements.{Byte, Element, rendering_of}
use Rattle.chunk_core.specs.Elements.LoadKind.{Bytes}
use Rattle.chunk_core.specs.declared.code.Code.{Code}
use Rattle.chunk_core.specs.declared.code.How.{How}
use Rattle.chunk_core.specs.declared.code.How.TheVariants as how
use Rattle.pipeline_desc.specs.declared.step.Step.{Step}
use Rattle.step_words.specs.Words.{kind_behind, needs_no_table}
use Rattle.eval_rules.specs.Answers.{group_over, how_of}

-- the steps fit behind bytes and look nothing up
pub record IsChain (steps : List Step) : Type 0 where
  pub kinds : IsSome (kind_behind steps Bytes)
  pub tables : list_all needs_no_table steps ≡ true

-- the text of what the steps give of the text of a group, and how that ends
abbrev pub result_of : List Step → List Element → List Element × How
result_of steps xs = (map Byte (rendering_of (group_over steps xs).list), how_of (group_over steps xs).end)

-- how work ends that ended in this fault, if in one
abbrev pub ends_by : Option Code → How
ends_by None = how.Done
ends_by (Some c) = how.Fault c
