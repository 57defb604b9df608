-- Whose turn it is, of two sides.
use Rattle.std.specs.Prelude.{◌≡◌, Bool, true, false}
use Rattle.stream_sides.specs.declared.side.Side.{Side}
use Rattle.stream_sides.specs.declared.side.Side.TheVariants.{Left, Right}

-- the side that is next where it hasn't ended, and which sides have ended
pub record MergeTurns : Type 0 where
  pub turn : Side
  pub left_ended : Bool
  pub right_ended : Bool

-- whether this side has ended
abbrev pub has_ended : MergeTurns → Side → Bool
has_ended t Left = t.left_ended
has_ended t Right = t.right_ended

-- this side has ended
abbrev pub with_ended : MergeTurns → Side → MergeTurns
with_ended t Left = record t { left_ended = true }
with_ended t Right = record t { right_ended = true }

-- this side goes on
abbrev pub IsGoing : MergeTurns → Side → Type 0
IsGoing t side = has_ended t side ≡ false
