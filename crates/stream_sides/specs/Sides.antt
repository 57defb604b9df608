-- What came of two sides, and what of it waits for the other one.
use Rattle.std.specs.Prelude.{◌≡◌, List, [], ◌++◌, length, drop, ◌↔◌}
use Rattle.chunk_core.specs.Elements.{Element}
use Rattle.pull_nodes.specs.Pairs.{pairs_of}
use Rattle.stream_sides.specs.declared.side.Side.{Side}
use Rattle.stream_sides.specs.declared.side.Side.TheVariants.{Left, Right}

-- the side across
abbrev pub other : Side → Side
other Left = Right
other Right = Left

-- elements of each side
pub record Sides : Type 0 where
  pub left : List Element
  pub right : List Element

-- the elements of this side
abbrev pub of_side : Sides → Side → List Element
of_side s Left = s.left
of_side s Right = s.right

-- more came of this side
abbrev pub with_more : Sides → Side → List Element → Sides
with_more s Left zs = record s { left = s.left ++ zs }
with_more s Right zs = record s { right = s.right ++ zs }

-- the pairs of the common length
abbrev pub paired : Sides → List Element
paired s = pairs_of s.left s.right

-- what stands behind the pairs: the rest of the longer side
abbrev pub unpaired : Sides → Sides
unpaired s = record { left = drop (length s.right) s.left; right = drop (length s.left) s.right }

-- left is needed exactly where none of the left side waits
abbrev pub IsNeeded : Sides → Side → Type 0
IsNeeded waiting side = (side ≡ Left) ↔ (waiting.left ≡ [])

-- behind all that came, more came of this side: these pairs are new, and this waits
pub record AddsPairs (all : Sides) (side : Side) (more given : List Element) (waiting : Sides) : Type 0 where
  pub pairs : paired all ++ given ≡ paired (with_more all side more)
  pub rest : waiting ≡ unpaired (with_more all side more)
