-- The work of a plan.
use Rattle.std.specs.Prelude.{ℕ, ◌-◌, List, ◌++◌, map, option_map}
use Rattle.chunk_core.specs.Outcomes.{Outcomes}
use Rattle.chunk_core.specs.Tables.{Values}
use Rattle.csv_pipes.specs.Dictionaries.{table_fault, table_value}
use Rattle.device_port.specs.Device.{DeviceTold}
use Rattle.pipeline_desc.specs.Meant.{PlanMeant}
use Rattle.pipeline_desc.specs.Nodes.{IsNodeOf, scopes_in}
use Rattle.pipeline_desc.specs.Places.{stream_places, table_places}
use Rattle.pipeline_desc.specs.declared.group.GroupSpec.{GroupSpec}
use Rattle.pipeline_desc.specs.declared.stream.StreamSpec.{StreamSpec}
use Rattle.pull_nodes.specs.Failures.{IsToldRun}
use Rattle.pull_nodes.specs.Runs.{IsIdealRun}
use Rattle.pull_nodes.specs.declared.node.Node.{Node}
use Rattle.run_rules.specs.Work.{Opener, Part, Stream, Work}
use Rattle.plan_work.specs.Joined.{joined}
use Rattle.plan_work.specs.Listed.{IdealListRuns, ListRuns, listed_specs, lister_of}
pub use Rattle.plan_work.specs.Seen.{below, visible}

-- a stream of a plan, which the end of another one may stop
abbrev pub stream_of : StreamSpec → Stream
stream_of s = record { places = stream_places s; scopes = scopes_in s; until = s.until }

-- the streams of a plan of whose list these lines were given streams: those that are described, and those of the lines behind them
abbrev pub specs_of : PlanMeant → List (List ℕ) → List StreamSpec
specs_of p lines = p.streams ++ listed_specs p.list lines

abbrev pub streams_of : PlanMeant → List (List ℕ) → List Stream
streams_of p lines = map stream_of (specs_of p lines)

-- how many tables and streams a group has
abbrev pub part_of_group : GroupSpec → Part
part_of_group g = record { tables = g.tables.to - g.tables.from; streams = g.streams.to - g.streams.from }

-- the outer stream of a plan: it reads the tables, each of which is refused or has values for keys, and the list, of which these lines were given streams
abbrev pub opener_of : PlanMeant → List (List ℕ) → Opener
opener_of p lines = record {
  tables = table_places p.tables;
  groups = map part_of_group p.groups;
  list = option_map (lister_of p lines) p.list;
  fault_of = table_fault;
  value_of = table_value;
  max_open = p.max_open;
  most = p.take;
}

-- what a node of the plan's stream k may give, over these devices and these tables, of which it sees those of the top and of its group; its end tells of each failure of the devices
abbrev pub PlanRuns : PlanMeant → ℕ → Values → (ℕ → DeviceTold) → Outcomes
PlanRuns p k v w ys e = (n : Node) × IsNodeOf p k n × IsToldRun (below (visible p k) v) w n ys e

-- what it gives where nothing is left and no device fails
abbrev pub IdealPlanRuns : PlanMeant → ℕ → Values → (ℕ → DeviceTold) → Outcomes
IdealPlanRuns p k v w ys e = (n : Node) × IsNodeOf p k n × IsIdealRun (below (visible p k) v) w n ys e

-- the work of a plan, of whose list these lines were given streams: an outer stream reads its tables and its list, and gives its streams
abbrev pub run_work : PlanMeant → List (List ℕ) → Work
run_work p lines = joined (opener_of p lines) (streams_of p lines) (PlanRuns p) (IdealPlanRuns p) ListRuns IdealListRuns
