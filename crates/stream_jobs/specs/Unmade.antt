-- A stream whose stepper found no memory to begin.
use Rattle.std.specs.Prelude.{◌≡◌, ℕ, ◌≤◌, List, []}
use Rattle.device_port.specs.Device.{DeviceTold}
use Rattle.interrupt_ctx.specs.Ends.{SeatSeen}
use Rattle.pull_nodes.specs.declared.node.Node.{Node}
use Rattle.scope_tree.specs.Calls.{Seen}
use Rattle.pull_stepper.specs.Stepping.{HasRoomFor, IsSupplied, begun}
use Rattle.stream_jobs.specs.Running.{IsBegun, Origin}

module _ {V F : Type 0} (told : V → DeviceTold) where
  -- the stream is about to run this node, for which there is room in the tree, over it and the devices, and nothing stands on the shelf
  pub record IsOfNode (n : Node) (a : Seen V) (devices : List V) (w : Origin V F) : Type 0 where
    pub start : w.start ≡ begun n a devices w.start.tables w.start.chunk
    pub supplied : IsSupplied told n devices
    pub room : HasRoomFor a n
    pub bare : a.shelf ≡ []
    pub chunk : 1 ≤ w.start.chunk
    pub begun : IsBegun told w

  -- it is stream k, which has a lease on the rows T and this seat at the board, and is about to run a node over the tree and the devices
  pub record IsUnmade (k : ℕ) (T : List ℕ) (seat : SeatSeen) (a : Seen V) (devices : List V) (w : Origin V F) : Type 0 where
    pub stream : w.stream ≡ k
    pub leased : w.leased ≡ T
    pub board : w.board ≡ seat
    pub node : Node
    pub is_of : IsOfNode node a devices w
