-- What a stream takes before it begins.
use Rattle.std.specs.Prelude.{◌≡◌, ℕ, ◌+◌, ◌≤◌, List, length, map, Option, Some}
use Rattle.device_port.specs.Device.{DeviceTold}
use Rattle.device_port.specs.Depot.{DepotTold}
use Rattle.pipeline_desc.specs.Meant.{PlanMeant}
use Rattle.pipeline_desc.specs.Nodes.{IsNodeOf, event_count, events_of, scopes_of}
use Rattle.pipeline_desc.specs.Places.{outer_rows, rows_of, rows_within, stream_places}
use Rattle.pipeline_desc.specs.declared.stream.StreamSpec.{StreamSpec}
use Rattle.pull_nodes.specs.Shape.{places_of, scope_count}
use Rattle.pull_stepper.specs.Stepping.{IsSupplied}
use Rattle.stream_parts.specs.declared.parts.StreamParts.{StreamParts}
use Rattle.stream_parts.specs.Made.{MakesEach, MakesInVain}
use Rattle.stream_parts.specs.Named.{named_stream}
use Rattle.scope_tree.specs.Visible.{row_room, scope_room}

-- stream k's node was made, room for its scopes, its rows and those of the outer stream, and a device for each of its rows, which reads the file at this path if it is one of the list
pub record MakesParts {V : Type 0} (told : V → DeviceTold) (p : PlanMeant) (k : ℕ) (path : Option (List ℕ)) (old new : DepotTold) (parts : StreamParts V) : Type 0 where
  pub node : IsNodeOf p k parts.node
  pub places : places_of parts.node ≡ rows_within (rows_of p k)
  pub scopes : scopes_of p k ≡ Some (scope_count parts.node)
  pub events : events_of p k ≡ Some (event_count parts.node + 1 + outer_rows p)
  pub most_scopes : scope_room parts.room ≡ scope_count parts.node + 1
  pub most_rows : length (places_of parts.node) + outer_rows p ≤ row_room parts.room
  pub supplied : IsSupplied told parts.node parts.devices
  pub stream : StreamSpec
  pub stream_is : named_stream p k path ≡ Some stream
  pub makes : MakesEach old new (stream_places stream) (map told parts.devices)

-- devices of stream k were made, and went back as they were made
abbrev pub MakesNoParts : PlanMeant → ℕ → Option (List ℕ) → DepotTold → DepotTold → Type 0
MakesNoParts p k path old new = (stream : StreamSpec) × (named_stream p k path ≡ Some stream) × MakesInVain old new (stream_places stream)
