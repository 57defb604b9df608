-- Events that are to be put into the order of the ledger.
use Rattle.std.specs.Prelude.{ℕ, ◌≤◌, ◌↔◌, List}
use Rattle.chunk_core.specs.Lists.{IsAmong}
use Rattle.res_ledger.specs.declared.event.Event.{Event}
use Rattle.res_ledger.specs.Ledger.{IsStamped}
use Rattle.row_seat.specs.Totals.{stamp_times}

-- the list has the events of the ledger, each once
pub record HasAllOf (events ledger : List Event) : Type 0 where
  pub stamped : IsStamped ledger
  pub whole : (e : Event) → IsAmong e ledger ↔ IsAmong e events
  pub once : (n : ℕ) → stamp_times n events ≤ 1
