-- What a run shows whose streams ran side by side.
use Rattle.std.specs.Prelude.{ℕ, List}
use Rattle.pipeline_desc.specs.Meant.{PlanMeant}
use Rattle.pipeline_desc.specs.Sound.{IsSoundPlan}
use Rattle.run_rules.specs.Run.{Performs}
use Rattle.run_rules.specs.Work.{RunRecord}
use Rattle.plan_work.specs.Listed.{ListRuns}
use Rattle.plan_work.specs.Plans.{PlanRuns, opener_of, run_work, streams_of}
use Rattle.joined_runs.specs.Together.{RunsTogether}

-- where the streams of a sound plan ran side by side, of whose list these lines were given streams, the work of the plan was done
abbrev pub PlansRunTogether : Type 0
PlansRunTogether = (p : PlanMeant) (lines : List (List ℕ)) (c : RunRecord) → IsSoundPlan p → RunsTogether (opener_of p lines) (streams_of p lines) (PlanRuns p) ListRuns c → Performs (run_work p lines) c
