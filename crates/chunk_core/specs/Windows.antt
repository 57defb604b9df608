-- The vector that a chunk is a window on.
use Rattle.std.specs.Prelude.{List, [], Option, None, Some, Vec}
use Rattle.std.specs.Arc.{arc_value}
use Rattle.std.specs.declared.alloc.Global.{Global}
use Rattle.std.specs.declared.sync.Arc.{Arc}

-- its elements, or none where there is no vector
abbrev pub shared_items : {T : Type 0} → Option (Arc (Vec T Global) Global) → List T
shared_items None = []
shared_items (Some items) = (arc_value items).items
