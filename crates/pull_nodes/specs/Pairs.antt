-- Pairs of the elements of two lists.
use Rattle.std.specs.Prelude.{ℕ, List, [], ◌∷◌, map}
use Rattle.std.specs.List.{zip}
use Rattle.chunk_core.specs.Elements.{Element, Byte, Line, Row}

-- the bytes of a line, and none of other elements
abbrev pub line_text : Element → List ℕ
line_text (Byte b) = []
line_text (Line line) = line
line_text (Row fields) = []

-- two lines as a row of two fields
abbrev pub pair_of : Element × Element → Element
pair_of p = Row (line_text p.0 ∷ line_text p.1 ∷ [])

-- the elements of two lists in pairs, as far as both go
abbrev pub pairs_of : List Element → List Element → List Element
pairs_of xs ys = map pair_of (zip xs ys)
