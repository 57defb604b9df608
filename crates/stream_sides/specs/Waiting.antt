-- What a zip keeps.
use Rattle.std.specs.Prelude.{ℕ, List, [], map, Option, Some, None}
use Rattle.chunk_core.specs.Elements.{Line}
use Rattle.stream_sides.specs.Sides.{Sides}
use Rattle.stream_sides.specs.declared.side.Side.{Side}
use Rattle.stream_sides.specs.declared.side.Side.TheVariants.{Left, Right}

-- lines of this side wait
abbrev pub waits : Side → Option (List (List ℕ)) → Sides
waits side None = record { left = []; right = [] }
waits Left (Some lines) = record { left = map Line lines; right = [] }
waits Right (Some lines) = record { left = []; right = map Line lines }
