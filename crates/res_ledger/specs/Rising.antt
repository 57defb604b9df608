-- Stamps that rise.
use Rattle.std.specs.Prelude.{◌<◌, List, [], ◌∷◌}
use Rattle.chunk_core.specs.Lists.{IsAmong}
use Rattle.res_ledger.specs.declared.event.Event.{Event}

-- each stamp is below those of the events behind it
abbrev pub Rises : List Event → Type 0
Rises [] = Unit {0}
Rises (e ∷ L) = ((x : Event) → IsAmong x L → e.stamp < x.stamp) × Rises L
