-- The plan of a case.
use Rattle.std.specs.Prelude.{ℕ, ◌≤◌, List, [], ◌∷◌, map, codes, None}
use Rattle.pull_nodes.specs.declared.pipe.Pipe.TheVariants as pipe
use Rattle.pipeline_desc.specs.Limits.{most_streams}
use Rattle.pipeline_desc.specs.Meant.{PlanMeant}
use Rattle.pipeline_desc.specs.Sound.{IsSoundPlan}
use Rattle.pipeline_desc.specs.declared.step.Step.{Step}
use Rattle.pipeline_desc.specs.declared.step.Step.TheVariants as step
use Rattle.pipeline_desc.specs.declared.stream.StreamSpec.{StreamSpec}
use Rattle.pipeline_desc.specs.declared.table.TableSpec.{TableSpec}
use Rattle.run_rules.specs.Facts.{first_numbers}
use Rattle.gen_case.specs.Case.{stream_path, table_path}
use Rattle.gen_case.specs.declared.case.Case.{Case}

-- the table `t`
abbrev pub tables_of_case : List TableSpec
tables_of_case = record { name = codes "t"; path = table_path } ∷ []

-- the records of a file, each with the table's value for its field 0
abbrev pub steps_of_case : List Step
steps_of_case = step.Pipe pipe.Csv ∷ step.Pipe (pipe.Lookup 0 0) ∷ []

-- the stream of a number
abbrev pub stream_spec : ℕ → StreamSpec
stream_spec k = record { path = stream_path k; steps = steps_of_case; second = None; on_fault = None; to = None; until = None }

abbrev pub streams_of : Case → List StreamSpec
streams_of c = map stream_spec (first_numbers c.streams)

-- the whole plan, whose other values are those of a description that doesn't give them
abbrev pub plan_of_case : Case → PlanMeant
plan_of_case c = record { max_open = 4; queue = 16; chunk = 4096; take = None; tables = tables_of_case; streams = streams_of c; groups = []; list = None }

-- the plan is within the limits of plans, where it may have so many streams
abbrev pub PlansAreSound : Type 0
PlansAreSound = (c : Case) → c.streams ≤ most_streams → IsSoundPlan (plan_of_case c)
