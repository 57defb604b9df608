-- How a run is stopped.
use Rattle.std.specs.Prelude.{◌≡◌, ◌⊎◌, ℕ, Bool, true, false, List, [], ◌++◌, Option, Some, None}
use Rattle.chunk_core.specs.Lists.{IsAmong}
use Rattle.interrupt_ctx.specs.Ends.{SeatSeen}
use Rattle.interrupt_ctx.specs.Views.{HasSetAll, Knows, giving, interruption, joined}
use Rattle.interrupt_ctx.specs.declared.view.Interruption.{Interruption}
use Rattle.interrupt_ctx.specs.declared.view.View.{View}
use Rattle.interrupt_ctx.specs.declared.why.Stop.{Stop}
use Rattle.join_tale.specs.Steps.{Marks}
use Rattle.join_tale.specs.Tales.{Tale}
use Rattle.join_report.specs.declared.stops.Stops.{Stops}

-- what the seat knows
abbrev pub view_of : Stops → View
view_of s = s.seat.view

-- while no other seat is out, all that is known was set
abbrev pub IsSettledBy : View → Type 0
IsSettledBy v = v.out ≡ 0 → HasSetAll v

-- the seat is the first one of the board, and what it knows is settled
pub record IsSeated (s : Stops) : Type 0 where
  pub fits : s.seat.board ≡ s.board.id
  pub first : (view_of s).first ≡ true
  pub settled : IsSettledBy (view_of s)

-- what the seat has set and seen is what the tale tells
pub record TellsKnown (t : Tale) (s : Stops) : Type 0 where
  pub set : t.set ≡ (view_of s).set
  pub seen : t.seen ≡ (view_of s).seen

-- these were set since and these found set, at the same board and with as many other seats out
pub record Learns (old new : Stops) (vs cs : List Interruption) : Type 0 where
  pub board : new.board ≡ old.board
  pub set : (view_of new).set ≡ (view_of old).set ++ vs
  pub seen : (view_of new).seen ≡ (view_of old).seen ++ cs
  pub out : (view_of new).out ≡ (view_of old).out

-- the context was interrupted so, or found interrupted
abbrev pub Interrupts : Stops → Stops → ℕ → Stop → Type 0
Interrupts old new context w = (vs : List Interruption) × (cs : List Interruption) × Marks context w vs cs × Learns old new vs cs

-- a code of the context is among these, or one of the whole run
abbrev pub Reaches : ℕ → List Interruption → Type 0
Reaches context cs = ((w : Stop) × IsAmong (interruption context w) cs) ⊎ ((w : Stop) × IsAmong (interruption 0 w) cs)

-- the seat knows of no code in the context
abbrev pub IsUnknown : View → ℕ → Type 0
IsUnknown v context = (w : Stop) → ¬ (Knows v context w)

-- a look found this, which reaches the context, or nothing was known and nothing found
abbrev pub Finds : Stops → Stops → ℕ → Option Stop → Type 0
Finds old new context (Some w) = (cs : List Interruption) × Learns old new [] cs × (IsAmong (interruption context w) cs ⊎ IsAmong (interruption 0 w) cs)
Finds old new context None = Learns old new [] [] × IsUnknown (view_of old) 0 × IsUnknown (view_of old) context

-- a look found a code that reaches the context, or none was known and none found
abbrev pub Looks : Stops → Stops → ℕ → Bool → Type 0
Looks old new context true = (cs : List Interruption) × Learns old new [] cs × Reaches context cs
Looks old new context false = Learns old new [] [] × IsUnknown (view_of old) 0 × IsUnknown (view_of old) context

-- one seat more is out
abbrev pub with_seat_out : Stops → Stops
with_seat_out s = record s { seat = record s.seat { view = giving (view_of s) } }

-- a seat was taken in
abbrev pub with_seat_in : Stops → SeatSeen → Stops
with_seat_in s other = record s { seat = record s.seat { view = joined (view_of s) other.view } }
