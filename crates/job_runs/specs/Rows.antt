-- The rows of a stream.
use Rattle.std.specs.Prelude.{◌≡◌, ℕ, ◌+◌, ◌*◌, ◌≤◌, nat_eq, List, length, Some}
use Rattle.chunk_core.specs.Lists.{IsAmong}
use Rattle.device_port.specs.Device.{DeviceTold}
use Rattle.pull_nodes.specs.Shape.{places_of, scope_count}
use Rattle.pull_nodes.specs.declared.node.Node.{Node}
use Rattle.res_ledger.specs.declared.event.StreamNo.{StreamNo}
use Rattle.res_ledger.specs.declared.event.Event.{Event}
use Rattle.res_ledger.specs.Ledger.{Covers}
use Rattle.row_seat.specs.declared.view.View.{View}
use Rattle.row_seat.specs.Views.{IsWithin}
use Rattle.scope_tree.specs.declared.branch.Spent.{Spent}
use Rattle.scope_tree.specs.declared.room.Room.{Room}
use Rattle.scope_tree.specs.Visible.{row_room, scope_room}
use Rattle.pull_stepper.specs.Placing.{first_of}

-- the first row of a node, and the one behind its last
abbrev pub from_row : Node → ℕ
from_row n = first_of (places_of n)

abbrev pub to_row : Node → ℕ
to_row n = first_of (places_of n) + length (places_of n)

-- no lease covers one of these rows
abbrev pub CoversNone : ℕ → ℕ → List Event → Type 0
CoversNone from to L = (j r : ℕ) (k : StreamNo) → IsWithin from to r → ¬ (Covers L j k r)

-- the Final of a row that stands on a shelf is that of its device
abbrev pub EndsAs : {V : Type 0} → (ℕ → DeviceTold) → Spent V → Type 0
EndsAs w x = ((w x.row).exit ≡ Some x.exit) × (x.ok ≡ nat_eq (w x.row).close_faults 0)

module _ {V : Type 0} where
  -- the rows of a node are empty in the seat of a stream, which has room for all its events, for the Cancel of its lease on the rows T and for their Finals, and its tree for just its scopes, and for its rows and these
  pub record HasRoomAsGuest {P : Type 0} (v : View V) (n : Node) (room : Room P) (T : List ℕ) : Type 0 where
    pub empty : (r : ℕ) → IsWithin (from_row n) (to_row n) r → IsAmong r v.empty
    pub events : 2 * length (places_of n) + 2 * scope_count n + 1 + 1 + length T ≤ v.spare
    pub scopes : scope_room room ≡ scope_count n + 1
    pub rows : length (places_of n) + length T ≤ row_room room
