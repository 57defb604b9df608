-- A job of a node, from its start on.
use Rattle.std.specs.Prelude.{◌≡◌, ℕ, ◌+◌, ◌≤◌, List, []}
use Rattle.chunk_core.specs.Tables.{Values}
use Rattle.device_port.specs.Device.{DeviceTold}
use Rattle.interrupt_ctx.specs.Ends.{SeatSeen}
use Rattle.pull_nodes.specs.Shape.{scope_count}
use Rattle.pull_nodes.specs.declared.node.Node.{Node}
use Rattle.res_ledger.specs.Own.{opens}
use Rattle.row_seat.specs.declared.view.View.{View}
use Rattle.scope_tree.specs.Calls.{IsOpenScope, Seen, used}
use Rattle.scope_tree.specs.Trace.{owed, trace}
use Rattle.scope_tree.specs.declared.room.Room.{Room}
use Rattle.scope_tree.specs.Visible.{row_room, scope_room}
use Rattle.tree_laws.specs.Visits.{IsNewGuest}
use Rattle.pull_stepper.specs.Stepping.{HasRoomFor, IsSupplied, begun}
use Rattle.stream_jobs.specs.Running.{Origin}
use Rattle.stream_jobs.specs.Unmade.{IsOfNode}
use Rattle.job_runs.specs.Rows.{HasRoomAsGuest}

-- the stream k was begun with a lease on the rows T and this seat at the board, to run the node over the tree a, these devices and tables with the values t, in reads of at most `chunk` bytes
abbrev pub origin_of : {V F : Type 0} → ℕ → List ℕ → SeatSeen → Node → Seen V → List V → Values → ℕ → Origin V F
origin_of k T board n a devices t chunk = record { stream = k; leased = T; start = begun n a devices t chunk; board = board }

module _ {V F : Type 0} (told : V → DeviceTold) where
  -- a job of this origin was begun to run the node over these devices and tables with the values t, in reads of at most `chunk` bytes, and in a tree with just room for its scopes
  pub record IsOriginOf (n : Node) (devices : List V) (t : Values) (chunk : ℕ) (w : Origin V F) : Type 0 where
    pub site : Seen V
    pub is_of : IsOfNode told n site devices w
    pub scopes : site.scopes ≡ scope_count n + 1
    pub tables : w.start.tables ≡ t
    pub chunk_is : w.start.chunk ≡ chunk

-- a is a tree over this seat, in this room, of which only the root is open
pub record IsNewTree {V P : Type 0} (seat : View V) (room : Room P) (a : Seen V) : Type 0 where
  pub seen : a ≡ record { seat = seat; shelf = []; scopes = scope_room room; rows = row_room room }
  pub root : IsOpenScope a 0
  pub used : (used a ≡ 0) × (opens (trace a.seat) ≡ [])
  pub owed : owed a.seat ≡ 1

-- Over a new tree of the seat of stream k there is room for a node that has room in it as a guest; and what begins so is the origin of a job of this node.
pub record OriginsBegin (V F P : Type 0) (told : V → DeviceTold) : Type 0 where
  pub room : (k : ℕ) (T : List ℕ) (n : Node) (seat : View V) (room : Room P) (a : Seen V) → IsNewTree seat room a → IsNewGuest seat k seat.floor T → HasRoomAsGuest seat n room T → HasRoomFor a n
  pub origin : (k : ℕ) (T : List ℕ) (board : SeatSeen) (n : Node) (devices : List V) (t : Values) (chunk : ℕ) (seat : View V) (room : Room P) (a : Seen V) → IsNewTree seat room a → IsNewGuest seat k seat.floor T → HasRoomAsGuest seat n room T → IsSupplied told n devices → 1 ≤ chunk
      → IsOriginOf {F = F} told n devices t chunk (origin_of k T board n a devices t chunk)
