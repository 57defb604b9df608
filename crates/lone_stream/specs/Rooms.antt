-- The room of one stream, and the node of a file.
use Rattle.std.specs.Prelude.{◌≡◌, ℕ, ◌+◌, ◌-◌, ◌*◌, ◌^◌, ◌≤◌, [], length}
use Rattle.pull_nodes.specs.Shape.{places_of, scope_count}
use Rattle.pull_nodes.specs.declared.node.Node.{Node}
use Rattle.pull_nodes.specs.declared.node.Node.TheVariants.{Read, Weak'}
use Rattle.res_ledger.specs.declared.event.StreamNo.{StreamNo}
use Rattle.row_seat.specs.declared.view.View.{View}
use Rattle.row_seat.specs.Views.{start}
use Rattle.pull_stepper.specs.Placing.{first_of}
use Rattle.scope_tree.specs.Calls.{Seen}
use Rattle.scope_tree.specs.Visible.{row_room, scope_room}
use Rattle.lone_stream.specs.declared.room.StreamRoom.{StreamRoom}

-- place 0 is opened and read
abbrev pub IsFileNode : Node → Type 0
IsFileNode n = (b : _) × (n ≡ Weak' 0 b (Read 0))

-- so many events a stream notes at most that runs the node
abbrev pub event_count : Node → ℕ
event_count n = 2 * length (places_of n) + 2 * scope_count n + 1

-- a fresh seat of the stream, with a row for each place of the node and room for all its events, and room for just its scopes
pub record IsRoomFor {S P : Type 0} (view : S → View P) (who : StreamNo) (n : Node) (room : StreamRoom S P) : Type 0 where
  pub seat : view room.seat ≡ start who (length (places_of n)) (event_count n) (2 ^ 32 - 1)
  pub scopes : scope_room room.scopes ≡ scope_count n + 1
  pub rows : length (places_of n) ≤ row_room room.scopes

-- the tree of a fresh seat of the stream, with room for all events and just the scopes of the node, whose places begin with 0
pub record IsFresh {P : Type 0} (who : StreamNo) (n : Node) (a : Seen P) : Type 0 where
  pub seat : a.seat ≡ start who (length (places_of n)) (event_count n) (2 ^ 32 - 1)
  pub shelf : a.shelf ≡ []
  pub scopes : a.scopes ≡ scope_count n + 1
  pub first : first_of (places_of n) ≡ 0
