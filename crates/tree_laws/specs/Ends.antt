-- The ledger that a tree's seat finished into.
use Rattle.std.specs.Prelude.{◌≡◌, ◌↔◌, ℕ, List}
use Rattle.chunk_core.specs.Lists.{IsAmong}
use Rattle.res_ledger.specs.declared.event.Event.{Event}
use Rattle.res_ledger.specs.Order.{covered_by}
use Rattle.row_seat.specs.declared.view.View.{View}
use Rattle.row_seat.specs.Views.{IsLedgerOf}
use Rattle.scope_tree.specs.Calls.{Seen}

module _ {P : Type 0} where
  -- L is the ledger of a seat u that finished, and of the tree's stream u has the events that the tree noted; for a main tree u is its own seat
  pub record IsFinishedLedger (b : Seen P) (u : View P) (L : List Event) : Type 0 where
    pub ledger : IsLedgerOf u L
    pub own : (e : Event) → e.by ≡ b.seat.by → IsAmong e u.events ↔ IsAmong e b.seat.events

-- each of these leases is on the rows that its Lease covers in L
abbrev pub AreCovered : List Event → List (ℕ × List ℕ) → Type 0
AreCovered L Cs = (j : ℕ) (T : List ℕ) → IsAmong (j, T) Cs → covered_by L j ≡ T
