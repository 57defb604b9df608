-- What contracts see of a shared seat and of a handle on its table.
use Rattle.std.specs.Prelude.{◌≡◌, ℕ, ◌+◌, ◌≤◌, true, false, length, vec_capacity, vec_len}
use Rattle.std.proofs.Common.{◌∙◌, ap}
use Rattle.std.specs.Arc.{arc_value}
use Rattle.std.specs.Vec.{with_item}
use Rattle.atomic_table.specs.Seated.{TableId}
use Rattle.row_seat.specs.declared.view.View.{View}
use Rattle.row_seat.specs.Hands.{rows_with, set_spot, spot}
use Rattle.std.specs.Map.{keys_of}
use Rattle.row_seat.specs.Rule.{IsInside, view_of}
use Rattle.row_seat.specs.Views.{paid}
use Rattle.row_shared.specs.declared.seat.SharedSeat.{SharedSeat}
use Rattle.row_shared.specs.declared.seat.TableRef.{TableRef}
use Rattle.row_shared.specs.declared.table.Start.{Start}
use Rattle.row_shared.specs.Places.{IsOfTable, KnowsItself}
use Rattle.row_shared.specs.Told.{IsIdle}

module _ {P : Type 0} where
  -- the seat's view
  abbrev pub shown : SharedSeat P → View P
  shown s = view_of s.pass.me.0.token s.hands.items

  -- the seat with another payload in an open row
  abbrev pub lent : SharedSeat P → ℕ → P → SharedSeat P
  lent s r w = record s { hands = with_item s.hands (spot r s.hands.items) (r, w) }

  -- the seat is of the table z, whose maker was told k, and has the room that it needs
  pub record SeatFits (s : SharedSeat P) (z : TableId) (k : Start) : Type 0 where
    pub table : IsOfTable s.pass.table_id z k
    -- it is in use, and holds no slot
    pub calm : IsIdle s.pass.me
    pub by : s.by ≡ s.pass.me.0.token.by
    pub first : s.pass.me.0.token.main ≡ true → s.pass.me.0.token.by ≡ k.by
    pub inside : IsInside z.slots s.pass.me.0.token
    pub itself : KnowsItself s.pass.me.0.token
    pub held : keys_of s.hands.items ≡ s.pass.me.0.token.opened
    pub noted : s.events.items ≡ s.pass.me.0.token.events
    -- the main seat has room for all rows and events, each other for its own
    pub whole : s.pass.me.0.token.main ≡ true → z.slots ≤ vec_capacity s.hands
    pub hold : s.pass.me.0.token.main ≡ false → length s.pass.me.0.token.empty + vec_len s.hands ≤ vec_capacity s.hands
    pub pages : s.pass.me.0.token.main ≡ true → k.events ≤ vec_capacity s.events
    pub leaves : s.pass.me.0.token.main ≡ false → length s.pass.me.0.token.events + s.pass.me.0.token.spare ≤ vec_capacity s.events

  -- the seat and the handle are of one maker, through any split and share
  abbrev pub SharedFits : SharedSeat P → TableRef P → Type 0
  SharedFits s d = SeatFits s (arc_value d.table).shared.table_id (arc_value d.table).shared.key

  pub shown_lent : (s : SharedSeat P) (r : ℕ) (w : P) → shown (lent s r w) ≡ paid (shown s) r w
  shown_lent s r w = ap (λ xs. view_of s.pass.me.0.token xs) (set_spot r w s.hands.items)

  pub fits_lent : (s : SharedSeat P) (r : ℕ) (w : P) (d : TableRef P) → SharedFits s d → SharedFits (lent s r w) d
  fits_lent s r w d h = record { table = h.table; calm = h.calm; by = h.by; first = h.first; inside = h.inside; itself = h.itself; held = ap keys_of (set_spot r w s.hands.items) ∙ (rows_with r w s.hands.items ∙ h.held); noted = h.noted; whole = h.whole; hold = h.hold; pages = h.pages; leaves = h.leaves }
