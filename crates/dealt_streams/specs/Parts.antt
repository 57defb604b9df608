-- What became of the streams that were dealt with, and of the devices that were made for them.
use Rattle.std.specs.Prelude.{◌≡◌, ◌⊎◌, ℕ, ◌+◌, ◌-◌, ◌<◌, ◌≤◌, nat_lt, if◌then◌else◌, length, List, [], map, take, Option, Some, None, slice_get}
use Rattle.chunk_core.specs.Lists.{IsAmong}
use Rattle.device_port.specs.Device.{DeviceTold}
use Rattle.device_port.specs.Depot.{DepotTold}
use Rattle.join_tale.specs.Tales as tales
use Rattle.join_tale.specs.Tales.{Fate}
use Rattle.outer_tables.specs.Outcomes.{values_in}
use Rattle.pipeline_desc.specs.Meant.{PlanMeant}
use Rattle.pipeline_desc.specs.Nodes.{IsNodeOf}
use Rattle.pipeline_desc.specs.Places.{outer_rows, rows_of, rows_within, stream_places}
use Rattle.pipeline_desc.specs.declared.stream.StreamSpec.{StreamSpec}
use Rattle.plan_work.specs.Plans.{visible}
use Rattle.pull_nodes.specs.Shape.{places_of, scope_count}
use Rattle.pull_nodes.specs.declared.node.Node.{Node}
use Rattle.stream_jobs.specs.Running.{Origin}
use Rattle.stream_parts.specs.Made.{MakesEach, MakesInVain}
use Rattle.stream_parts.specs.Named.{named_stream}
use Rattle.stream_jobs.specs.Unmade.{IsOfNode}
use Rattle.scope_tree.specs.Calls.{Seen}

-- rows of the first so many, and no more
pub record AreTableRows (tables : ℕ) (rows : List ℕ) : Type 0 where
  pub below : (r : ℕ) → IsAmong r rows → r < tables
  pub few : length rows ≤ tables

-- what was made of a stream that was never begun: nothing and none came back, or devices that came back at once, or a device for each row, which is never opened
abbrev pub MakesUnmade : {V : Type 0} → (V → DeviceTold) → StreamSpec → DepotTold → DepotTold → List V → Type 0
MakesUnmade told s old new ds = ((ds ≡ []) × ((new ≡ old) ⊎ MakesInVain old new (stream_places s))) ⊎ MakesEach old new (stream_places s) (map told ds)

-- of the lines that were given streams, the one that stream k reads, and none where it is described
abbrev pub line_at : PlanMeant → List (List ℕ) → ℕ → Option (List ℕ)
line_at p lines k = if nat_lt k (length p.streams) then None else slice_get lines (k - length p.streams)

-- stream k, which reads its line if it is one of the list
abbrev pub spec_of : PlanMeant → List (List ℕ) → ℕ → Option StreamSpec
spec_of p lines k = named_stream p k (line_at p lines k)

-- A stream that was dealt with was begun: its node and a device for each of its rows were made, and its job is of this origin. Or a code was found, or the outer stream had
-- ended; or there was no memory to make it, and these devices were made, which are never opened.
pub data Part (V F : Type 0) : Type 0 where
  Begun : Node → List V → Origin V F → Part V F
  Skipped : Part V F
  Unmade : List V → Part V F

module _ {V F : Type 0} where
  -- its fate, as the tale has it
  abbrev pub fate_of : Part V F → Fate
  fate_of (Begun n ds w) = tales.Fate.Begun
  fate_of Skipped = tales.Fate.Skipped
  fate_of (Unmade ds) = tales.Fate.Unmade

  -- Of streams that are dealt with once these contents were read of tables, and these lines were given streams.
  module _ (told : V → DeviceTold) (p : PlanMeant) (contents lines : List (List ℕ)) where
    -- stream k's node was made, and its job over it, a tree with just room for its scopes, these devices and the tables that it may look up, which were read by then, with rows of the outer stream leased
    pub record IsMadeOf (k : ℕ) (n : Node) (ds : List V) (w : Origin V F) : Type 0 where
      pub node : IsNodeOf p k n
      pub places : places_of n ≡ rows_within (rows_of p k)
      pub stream : w.stream ≡ k
      pub leased : AreTableRows (outer_rows p) w.leased
      pub site : Seen V
      pub is_of : IsOfNode told n site ds w
      pub scopes : site.scopes ≡ scope_count n + 1
      pub read : visible p k ≤ length contents
      pub tables : w.start.tables ≡ values_in (take (visible p k) contents)
      pub chunk : w.start.chunk ≡ p.chunk

    -- what became of stream k, while the depot came from old to new; one of the list had a line by then
    abbrev pub Deals : ℕ → DepotTold → DepotTold → Part V F → Type 0
    Deals k old new (Begun n ds w) = (s : StreamSpec) × (spec_of p lines k ≡ Some s) × (k < length p.streams + length lines) × IsMadeOf k n ds w × MakesEach old new (stream_places s) (map told ds)
    Deals k old new Skipped = (k < length p.streams + length lines) × (new ≡ old)
    Deals k old new (Unmade ds) = (s : StreamSpec) × (spec_of p lines k ≡ Some s) × (k < length p.streams + length lines) × MakesUnmade told s old new ds
