-- The nodes and the events of a plan's streams.
use Rattle.std.specs.Prelude.{◌≡◌, ℕ, ◌+◌, ◌*◌, ◌≤◌, Bool, List, [], ◌∷◌, ◌++◌, length, Option, Some, None, option_map, option_to_list}
use Rattle.std.specs.Global.{Box}
use Rattle.chunk_core.specs.declared.load.Load.{Load}
use Rattle.chunk_core.specs.declared.load.Load.TheVariants as load
use Rattle.pull_nodes.specs.Kinds.{node_kind}
use Rattle.pull_nodes.specs.Shape.{places_of, scope_count}
use Rattle.pull_nodes.specs.declared.kind.Kind.{Kind}
use Rattle.pull_nodes.specs.declared.kind.Kind.TheVariants as kind
use Rattle.pull_nodes.specs.declared.node.Node.{Node}
use Rattle.pull_nodes.specs.declared.node.Node.TheVariants.{Emit, Read, Weak', Scope', Append', OnFault', Through', Take', Zip', Merge', Into'}
use Rattle.device_port.specs.declared.device.Mode.{Mode}
use Rattle.pipeline_desc.specs.Meant.{PlanMeant, stream_at}
use Rattle.pipeline_desc.specs.Limits.{most_steps}
use Rattle.pipeline_desc.specs.Steps.{steps_behind}
use Rattle.pipeline_desc.specs.Places.{first_row, outer_rows, row_count, rows_that, stream_places}
use Rattle.pipeline_desc.specs.declared.join.Join.{Join}
use Rattle.pipeline_desc.specs.declared.join.Join.TheVariants as join
use Rattle.pipeline_desc.specs.declared.step.Step.{Step}
use Rattle.pipeline_desc.specs.declared.step.Step.TheVariants as step
use Rattle.pipeline_desc.specs.declared.stream.Second.{Second}
use Rattle.pipeline_desc.specs.declared.stream.StreamSpec.{StreamSpec}

-- where the part of a node lies, which says nothing of the node
abbrev pub Boxed : Type 0
Boxed = Box (Unit {0})

-- n is a behind a step, in a box somewhere
abbrev pub IsBehindStep : Step → Node → Node → Type 0
IsBehindStep (step.Take k) a n = (b : Boxed) × (n ≡ Take' k b a)
IsBehindStep (step.Pipe p) a n = (b : Boxed) × (n ≡ Through' b a p)

-- n is a behind steps, from the first on
abbrev pub IsBehind : List Step → Node → Node → Type 0
IsBehind [] a n = n ≡ a
IsBehind (s ∷ steps) a n = (m : Node) × IsBehindStep s a m × IsBehind steps m n

-- n is the join of two sides
abbrev pub IsJoined : Join → Node → Node → Node → Type 0
IsJoined join.Append a b n = (x y : Boxed) × (n ≡ Append' x a y b)
IsJoined join.Zip a b n = (x y : Boxed) × (n ≡ Zip' x a y b)
IsJoined join.Merge a b n = (x y : Boxed) × (n ≡ Merge' x a y b)

-- n reads the device at a place, and its bytes go through the steps; where there is a second side, it is joined with the same of the device behind it
abbrev pub IsCore : ℕ → List Step → Option Second → Node → Type 0
IsCore place steps None n = IsBehind steps (Read place) n
IsCore place steps (Some second) n =
    (a b m : Node) × IsBehind steps (Read place) a × IsBehind steps (Read (place + 1)) b × IsJoined second.join a b m × IsBehind second.after m n

-- n acquires the device at the place of the second side, where there is one, and then is a
abbrev pub IsBeside : ℕ → Option Second → Node → Node → Type 0
IsBeside place None a n = n ≡ a
IsBeside place (Some second) a n = (b : Boxed) × (n ≡ Weak' (place + 1) b a)

-- n acquires the devices from a place on, reads them, and their bytes go through the stream's steps
abbrev pub IsBody : ℕ → StreamSpec → Node → Type 0
IsBody place s n = (a m : Node) × (b : Boxed) × IsCore place s.steps s.second a × IsBeside place s.second a m × (n ≡ Weak' place b m)

-- a text as a load of this kind: its bytes, one line, or one row of one field
abbrev pub load_of : Kind → List ℕ → Load
load_of kind.Bytes text = load.Bytes text
load_of kind.Lines text = load.Lines (text ∷ [])
load_of kind.Rows text = load.Rows ((text ∷ []) ∷ [])
load_of kind.Any text = load.Bytes text

-- n is a, or where there is a text, a in a scope of its own and after a fault the text
abbrev pub IsOrText : Kind → Option (List ℕ) → Node → Node → Type 0
IsOrText k None a n = n ≡ a
IsOrText k (Some text) a n = (b c d : Boxed) × (n ≡ OnFault' b (Scope' c a) d (Emit (load_of k text)))

-- n is a, or where there is a path to write, a written to the device at a place, which is acquired first and released last
abbrev pub IsWritten : ℕ → Option (List ℕ) → Node → Node → Type 0
IsWritten place None a n = n ≡ a
IsWritten place (Some to) a n = (b c : Boxed) × (n ≡ Weak' place b (Into' place c a))

-- the row of a stream's path, which stands behind that of its `to`; the stream's first row is this
abbrev pub path_row : ℕ → StreamSpec → ℕ
path_row place s = place + length (option_to_list s.to)

-- n is the node of a stream whose first row is this; the text has the kind of what the stream gives
abbrev pub IsStreamNode : ℕ → StreamSpec → Node → Type 0
IsStreamNode place s n =
    (a m : Node) × (k : Kind) × IsBody (path_row place s) s a × (node_kind a ≡ Some k) × IsOrText k s.on_fault a m × IsWritten place s.to m n

-- stream k as far as its node goes, which doesn't depend on the file that a stream of the list reads
abbrev pub shape_of : PlanMeant → ℕ → Option StreamSpec
shape_of p k = stream_at p [] k

-- n is made as the node of stream k, which has few steps
abbrev pub IsMade : PlanMeant → ℕ → Node → Type 0
IsMade p k n = (s : StreamSpec) × (shape_of p k ≡ Some s) × IsStreamNode (first_row p k) s n × (length (s.steps ++ steps_behind s.second) ≤ most_steps)

-- n is the node of stream k, and if that is one of the list, whichever file it reads
abbrev pub IsNodeOf : PlanMeant → ℕ → Node → Type 0
IsNodeOf p k n = (line : List ℕ) → (s : StreamSpec) × (stream_at p line k ≡ Some s) × IsStreamNode (first_row p k) s n

-- the most events that a run of a node notes: two for each place, two for each scope, and the close of the root
abbrev pub event_count : Node → ℕ
event_count n = 2 * length (places_of n) + 2 * scope_count n + 1

-- the rows of stream k whose mode passes
abbrev pub rows_for : (Mode → Bool) → PlanMeant → ℕ → Option (List ℕ)
rows_for test p k = option_map (λ s. rows_that test (first_row p k) (stream_places s)) (shape_of p k)

-- how many scopes the node of a stream has: one around it, where a text stands in for a fault
abbrev pub scopes_in : StreamSpec → ℕ
scopes_in s = length (option_to_list s.on_fault)

-- how many scopes the node of stream k has
abbrev pub scopes_of : PlanMeant → ℕ → Option ℕ
scopes_of p k = option_map scopes_in (shape_of p k)

-- the most events that a stream notes beside so many rows of the outer stream: two for each row, two for each scope, the close of the root, the end of
-- the lease, and then the end of each of those rows
abbrev pub stream_events : ℕ → StreamSpec → ℕ
stream_events outer s = 2 * row_count s + 2 * scopes_in s + 1 + 1 + outer

-- the most events that stream k notes
abbrev pub events_of : PlanMeant → ℕ → Option ℕ
events_of p k = option_map (stream_events (outer_rows p)) (shape_of p k)
