-- What contracts see of a board and of a seat.
use Rattle.std.specs.Prelude.{◌≡◌, ℕ, ◌≤◌, true, [], Some}
use Rattle.atomic_table.specs.Seated.{TableId}
use Rattle.atomic_table.specs.declared.owned.Table.{Table}
use Rattle.atomic_table.specs.declared.shared.Seat.{Seat}
use Rattle.interrupt_ctx.specs.declared.view.View.{View}
use Rattle.interrupt_ctx.specs.declared.why.Stop.{Stop}
use Rattle.interrupt_ctx.specs.Views.{first_view, with_seen, with_set}

-- which board it is, and how many contexts it has
pub record BoardSeen : Type 0 where
  pub id : TableId
  pub contexts : ℕ

-- which board a seat is at, and what it knows
pub record SeatSeen : Type 0 where
  pub board : TableId
  pub view : View

-- the seat that comes with the board
abbrev pub first_seat : TableId → SeatSeen
first_seat id = record { board = id; view = first_view }

-- the seat has set this cause in the context
abbrev pub HasSet : SeatSeen → SeatSeen → ℕ → Stop → Type 0
HasSet old new context stop = new ≡ record old { view = with_set old.view context stop }

-- the seat has found this cause in the context, and noted it
abbrev pub HasFound : SeatSeen → SeatSeen → ℕ → Stop → Type 0
HasFound old new context there = new ≡ record old { view = with_seen old.view context (Some there) }

-- a board as it lies in its table
abbrev pub seen_board : {K P A : Type 0} → Table ℕ View K P A → BoardSeen
seen_board t = record { id = t.shared.table_id; contexts = t.words }

-- its rule knows how many words it has, and there is at least one
abbrev pub IsSized : {P A : Type 0} → Table ℕ View ℕ P A → Type 0
IsSized t = (t.shared.key ≡ t.words) × (1 ≤ t.words)

-- a seat as it stands at its table
abbrev pub seen_seat : Seat ℕ View → SeatSeen
seen_seat s = record { board = s.table_id; view = s.me.0 }

-- it has no slot, and wasn't taken in
abbrev pub IsInUse : Seat ℕ View → Type 0
IsInUse s = (s.me.1 ≡ []) × (s.me.0.live ≡ true)
