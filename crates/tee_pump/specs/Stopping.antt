-- How the branches are told to stop.
use Rattle.std.specs.Prelude.{◌≡◌, ◌⊎◌, ℕ, true}
use Rattle.chunk_core.specs.Lists.{IsAmong}
use Rattle.chunk_core.specs.declared.code.How.{How}
use Rattle.chunk_core.specs.declared.code.How.TheVariants as how
use Rattle.interrupt_ctx.specs.Ends.{BoardSeen, SeatSeen}
use Rattle.interrupt_ctx.specs.Views.{Knows, interruption}
use Rattle.interrupt_ctx.specs.declared.why.Stop.{Stop}

-- the reader wasn't done
abbrev pub IsEarly : How → Type 0
IsEarly how.Done = ⊥
IsEarly (how.Fault c) = Unit {0}
IsEarly how.Halted = Unit {0}
IsEarly how.Memory = Unit {0}

-- the seat that stays with the publisher, where n others are out: it has interrupted the run only for this cause
pub record IsSeat (board : BoardSeen) (n : ℕ) (Cause : Type 0) (seat : SeatSeen) : Type 0 where
  pub board_is : seat.board ≡ board.id
  pub first : seat.view.first ≡ true
  pub out : seat.view.out ≡ n
  pub caused : (stop : Stop) → IsAmong (interruption 0 stop) seat.view.set → Cause

-- the seat knows that the run is interrupted
abbrev pub IsStopped : SeatSeen → Type 0
IsStopped seat = (stop : Stop) × Knows seat.view 0 stop

-- the run is interrupted from now on
pub record Interrupts (a b : SeatSeen) : Type 0 where
  pub board_is : b.board ≡ a.board
  pub first : b.view.first ≡ a.view.first
  pub out : b.view.out ≡ a.view.out
  pub stopped : IsStopped b

-- it is interrupted just where it must stop
abbrev pub StopsWhere : Type 0 → SeatSeen → SeatSeen → Type 0
StopsWhere must a b = (must × Interrupts a b) ⊎ ((¬ must) × (b ≡ a))
