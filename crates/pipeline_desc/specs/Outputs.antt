-- The paths that are written are no other paths of a description.
use Rattle.std.specs.Prelude.{ℕ, ◌+◌, Bool, true, nat_le, List, [], ◌∷◌, count_by, Option, Some, None, Ok}
use Rattle.std.specs.Str.{bytes_eq}
use Rattle.device_port.specs.Device.{Place}
use Rattle.pipeline_desc.specs.Places.{all_places}
use Rattle.pipeline_desc.specs.Reading.{Reading, ◌>>=◌, passes}
use Rattle.pipeline_desc.specs.declared.refusal.Position.TheVariants.{InStream}
use Rattle.pipeline_desc.specs.declared.refusal.RefusalKind.TheVariants as refused
use Rattle.pipeline_desc.specs.declared.listing.ListSpec.{ListSpec}
use Rattle.pipeline_desc.specs.declared.stream.StreamSpec.{StreamSpec}
use Rattle.pipeline_desc.specs.declared.table.TableSpec.{TableSpec}

-- the path stands once at most among the paths of these places, where there is one
abbrev pub is_alone : List Place → Option (List ℕ) → Bool
is_alone places None = true
is_alone places (Some to) = nat_le (count_by (λ p. bytes_eq to p.path) places) 1

-- the streams from number k on write to no path that is another one of these places
abbrev pub alone_from : List Place → ℕ → List StreamSpec → Reading (Unit {0})
alone_from places k [] = Ok tt
alone_from places k (s ∷ streams) = passes (is_alone places s.to) refused.OutOfRange (InStream k) >>= (λ _. alone_from places (k + 1) streams)

-- no stream writes to another path of the description
abbrev pub outputs_alone : List TableSpec → Option ListSpec → List StreamSpec → Reading (Unit {0})
outputs_alone tables list streams = alone_from (all_places tables list streams) 0 streams
