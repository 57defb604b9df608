-- The plan that counts lines.
use Rattle.std.specs.Prelude.{ℕ, List, [], ◌∷◌, map, None}
use Rattle.pull_nodes.specs.declared.pipe.Pipe.TheVariants as pipe
use Rattle.pipeline_desc.specs.Meant.{PlanMeant}
use Rattle.pipeline_desc.specs.declared.step.Step.TheVariants as step
use Rattle.pipeline_desc.specs.declared.stream.StreamSpec.{StreamSpec}

-- the stream that counts the lines of a file
abbrev pub lines_of : List ℕ → StreamSpec
lines_of path = record { path = path; steps = step.Pipe pipe.Lines ∷ step.Pipe pipe.Count ∷ []; second = None; on_fault = None; to = None; until = None }

-- the plan that counts the lines of each of these files
abbrev pub counting_plan : List (List ℕ) → PlanMeant
counting_plan paths = record { max_open = 4; queue = 16; chunk = 4096; take = None; tables = []; streams = map lines_of paths; groups = []; list = None }
