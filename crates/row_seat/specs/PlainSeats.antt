-- What contracts see of a plain seat and its table.
use Rattle.std.specs.Prelude.{◌≡◌, ℕ, ◌+◌, ◌≤◌, true, List, length, None, Option, vec_capacity, vec_len, slice_index, slice_index_or}
use Rattle.std.proofs.Common.{◌∙◌, ap}
use Rattle.std.specs.Vec.{with_item}
use Rattle.row_seat.specs.Totals.{total}
use Rattle.res_ledger.specs.declared.event.Event.{Event}
use Rattle.row_seat.specs.declared.plain.PlainSeat.{PlainSeat}
use Rattle.row_seat.specs.declared.plain.PlainTable.{PlainTable}
use Rattle.row_seat.specs.Rule.{IsSeated, RuleHolds, view_of}
use Rattle.row_seat.specs.declared.token.Token.{Token}
use Rattle.row_seat.specs.declared.view.View.{View}
use Rattle.row_seat.specs.Views.{paid}
use Rattle.row_seat.specs.Hands.{rows_with, set_spot, spot}
use Rattle.std.specs.Map.{keys_of}

module _ {P : Type 0} where
  -- the seat's view
  abbrev pub shown : PlainSeat P → View P
  shown s = view_of s.token s.hands.items

  -- the seat with another payload in an open row
  abbrev pub lent : PlainSeat P → ℕ → P → PlainSeat P
  lent s r w = record s { hands = with_item s.hands (spot r s.hands.items) (r, w) }

  -- what stands at the table between two calls
  pub record IsTable (slots : List (Option P)) (words : List ℕ) (events : List Event) (most : ℕ) (views : List (Token P)) : Type 0 where
    pub room : ℕ
    pub enough : room ≤ most
    pub words_are : length words ≡ length slots
    pub rule : RuleHolds (length slots) room (λ r. slice_index words r) (λ r. slice_index_or slots r None) events views
    pub load : total (λ (v : Token P). length v.empty + length v.opened) views ≤ length slots

  -- the seat's view is one of the table's, and its hands have room for the rows that it may open
  pub record Sits (s : PlainSeat P) (d : PlainTable P) : Type 0 where
    pub table : IsTable d.slots.items d.words.items d.events.items (vec_capacity d.events) d.views
    pub seated : IsSeated d.views s.id s.token
    pub by : s.by ≡ s.token.by
    pub held : keys_of s.hands.items ≡ s.token.opened
    pub hold : length s.token.empty + vec_len s.hands ≤ vec_capacity s.hands
    pub whole : s.token.main ≡ true → length d.slots.items ≤ vec_capacity s.hands

  pub shown_lent : (s : PlainSeat P) (r : ℕ) (w : P) → shown (lent s r w) ≡ paid (shown s) r w
  shown_lent s r w = ap (λ xs. view_of s.token xs) (set_spot r w s.hands.items)

  pub fitting_lent : (s : PlainSeat P) (r : ℕ) (w : P) (d : PlainTable P) → Sits s d → Sits (lent s r w) d
  fitting_lent s r w d h = record { table = h.table; seated = h.seated; by = h.by; held = ap keys_of (set_spot r w s.hands.items) ∙ (rows_with r w s.hands.items ∙ h.held); hold = h.hold; whole = h.whole }
