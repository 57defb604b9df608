-- Changes of an input that comes in parts.
use Rattle.std.specs.Prelude.{ℕ, Bool, true, not, List, [], Option, None, Some}
use Rattle.chunk_core.specs.Elements.{Element}
use Rattle.chunk_core.specs.declared.load.Load.{Load}
use Rattle.chunk_core.specs.declared.load.Load.TheVariants as load
use Rattle.pull_nodes.specs.Changes.{same_element, changes, changes_after}

-- the element differs from the one before it, or none stands there
abbrev pub is_change : Option Element → Element → Bool
is_change None x = true
is_change (Some y) x = not (same_element y x)

-- the elements that differ from the one before them; one may stand before the first
abbrev pub changed_behind : Option Element → List Element → List Element
changed_behind None xs = changes xs
changed_behind (Some y) xs = changes_after y xs

-- the lines of a load, or none where it is of another kind
abbrev pub lines_in : Load → List (List ℕ)
lines_in (load.Bytes bytes) = []
lines_in (load.Lines lines) = lines
lines_in (load.Rows rows) = []

-- the rows of a load, or none where it is of another kind
abbrev pub rows_in : Load → List (List (List ℕ))
rows_in (load.Bytes bytes) = []
rows_in (load.Lines lines) = []
rows_in (load.Rows rows) = rows
