-- What follows of the work of a plan.
use Rattle.std.specs.Prelude.{◌≡◌, ℕ, List, [], ◌++◌, map, flat_map, length, take, None}
use Rattle.csv_pipes.specs.Dictionaries.{Dictionary, values_of}
use Rattle.pipeline_desc.specs.Meant.{PlanMeant}
use Rattle.pipeline_desc.specs.Places.{stream_places, table_places}
use Rattle.run_rules.specs.Work.{opener_places, parts_of, row_places, top_of}
use Rattle.plan_work.specs.Plans.{opener_of, run_work, stream_of, streams_of}
use Rattle.plan_work.specs.Seen.{below, visible}

-- the work of a plan with one part: its rows are those of its tables and of its described streams, and all of these belong to the top
pub record HasOnePart (p : PlanMeant) (lines : List (List ℕ)) : Type 0 where
  pub streams : streams_of p lines ≡ map stream_of p.streams
  pub outer : opener_places (opener_of p lines) ≡ table_places p.tables
  pub rows : row_places (run_work p lines) ≡ table_places p.tables ++ flat_map stream_places p.streams
  pub parts : parts_of (opener_of p lines) ≡ []
  pub top : (n : ℕ) → top_of (opener_of p lines) n ≡ record { tables = length p.tables; streams = n }
  pub sees : (k : ℕ) → visible p k ≡ length p.tables

-- so is that of a plan without groups and without a list, whatever lines are told
abbrev pub PlainPlansHaveOnePart : Type 0
PlainPlansHaveOnePart = (p : PlanMeant) (lines : List (List ℕ)) → p.groups ≡ [] → p.list ≡ None → HasOnePart p lines

-- the first dictionaries have the values of the tables below their number
abbrev pub FirstAreBelow : Type 0
FirstAreBelow = (n : ℕ) (ds : List Dictionary) → values_of (take n ds) ≡ below n (values_of ds)
