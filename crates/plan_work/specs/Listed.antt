-- The streams of a plan's list, and what the list may give.
use Rattle.std.specs.Prelude.{◌≡◌, ℕ, ◌||◌, Bool, false, not, List, [], map, length, Option, Some, None}
use Rattle.std.specs.List.{list_any}
use Rattle.std.specs.Str.{bytes_eq}
use Rattle.chunk_core.specs.Elements.{Byte}
use Rattle.chunk_core.specs.Outcomes.{Outcomes}
use Rattle.chunk_core.specs.Tables.{no_values}
use Rattle.device_port.specs.Device.{DeviceTold, to_read}
use Rattle.pipeline_desc.specs.Limits.{is_path}
use Rattle.pipeline_desc.specs.Meant.{PlanMeant, listed_stream}
use Rattle.pipeline_desc.specs.Nodes.{Boxed}
use Rattle.pipeline_desc.specs.declared.listing.ListSpec.{ListSpec}
use Rattle.pipeline_desc.specs.declared.stream.StreamSpec.{StreamSpec}
use Rattle.pull_nodes.specs.Pipes.{part_of}
use Rattle.pull_nodes.specs.Runs.{IsIdealRun, IsRun}
use Rattle.pull_nodes.specs.declared.node.Node.{Node}
use Rattle.pull_nodes.specs.declared.node.Node.TheVariants.{Read, Through', Weak'}
use Rattle.pull_nodes.specs.declared.pipe.Pipe.TheVariants as pipe
use Rattle.run_rules.specs.Work.{Lister}

-- a stream of the list for each of these lines, and none without a list
abbrev pub listed_specs : Option ListSpec → List (List ℕ) → List StreamSpec
listed_specs None lines = []
listed_specs (Some l) lines = map (listed_stream l) lines

-- a described stream of the plan writes to the path
abbrev pub is_output : PlanMeant → List ℕ → Bool
is_output p path = list_any (λ s. elim s.to [ Some to ↦ bytes_eq to path | None ↦ false ]) p.streams

-- the line is given no stream: it is no path, or the plan writes to it
abbrev pub is_bad_line : PlanMeant → List ℕ → Bool
is_bad_line p line = not (is_path line) || is_output p line

-- the most bytes of one read of the list
abbrev pub list_piece : ℕ
list_piece = 4096

-- how many lines have ended in the first bytes of a file
abbrev pub lines_ended : List ℕ → ℕ
lines_ended bytes = length (part_of no_values pipe.Lines (part_of no_values pipe.Utf8 (map Byte bytes)).list).list

-- the list of a plan, of which these lines were given streams
abbrev pub lister_of : PlanMeant → List (List ℕ) → ListSpec → Lister
lister_of p lines l = record { place = to_read l.path; lines = lines; most = l.max; is_bad = is_bad_line p; piece = list_piece; ended_in = lines_ended }

-- the device 0 is acquired and read, and its bytes go through as lines of text
abbrev pub IsListNode : Node → Type 0
IsListNode n = (a b c : Boxed) × (n ≡ Weak' 0 a (Through' b (Through' c (Read 0) pipe.Utf8) pipe.Lines))

-- what the list may give, which has this device
abbrev pub ListRuns : DeviceTold → Outcomes
ListRuns d ys e = (n : Node) × IsListNode n × IsRun no_values (λ r. d) n ys e

-- what it gives where nothing is left and the device doesn't fail
abbrev pub IdealListRuns : DeviceTold → Outcomes
IdealListRuns d ys e = (n : Node) × IsListNode n × IsIdealRun no_values (λ r. d) n ys e
