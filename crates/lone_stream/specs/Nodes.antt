-- What running a node over a tree to its end leaves.
use Rattle.std.specs.Prelude.{◌≡◌, ℕ, ◌+◌, ◌*◌, ◌^◌, ◌≤◌, List, [], length, nat_eq}
use Rattle.chunk_core.specs.Lists.{IsAmong}
use Rattle.chunk_core.specs.Outcomes.{exit_of}
use Rattle.chunk_core.specs.declared.code.Exit.{Exit}
use Rattle.chunk_core.specs.declared.code.How.{How}
use Rattle.device_port.specs.Device.{DeviceTold}
use Rattle.pull_nodes.specs.Shape.{places_of, scope_count}
use Rattle.pull_nodes.specs.declared.node.Node.{Node}
use Rattle.res_ledger.specs.declared.event.What.TheVariants.{Close}
use Rattle.res_ledger.specs.Ledger.{Notes}
use Rattle.res_ledger.specs.Order.{firsts}
use Rattle.res_ledger.specs.Own.{opens}
use Rattle.row_seat.specs.Views.{IsWithin}
use Rattle.scope_tree.specs.declared.branch.Spent.{Spent}
use Rattle.scope_tree.specs.Calls.{IsClosedScope, Seen, used}
use Rattle.std.specs.List.{IsDistinct}
use Rattle.scope_tree.specs.Released.{said}
use Rattle.scope_tree.specs.Trace.{owed, trace}
use Rattle.tree_laws.specs.Alone.{StaysAlone}
use Rattle.tree_laws.specs.Called.{Called}
use Rattle.pull_stepper.specs.Held.{FinishesDevice}
use Rattle.pull_stepper.specs.Placing.{first_of}
use Rattle.pull_stepper.specs.Sites.{Parted, SameDevice, told_at}
use Rattle.pull_stepper.specs.Stepping.{site_of}

module _ {V : Type 0} where
  -- of the room of a tree no more was used than the node counts, and nothing is owed any more
  pub record UsesNoMore (n : Node) (a b : Seen V) : Type 0 where
    pub owed : owed b.seat ≡ 0
    pub events : a.seat.spare ≤ b.seat.spare + (2 * length (places_of n) + 2 * scope_count n + 1)
    pub scopes : length (opens (trace b.seat)) ≤ length (opens (trace a.seat)) + scope_count n
    pub rows : used b ≤ used a + length (places_of n)
    pub most_scopes : b.scopes ≡ a.scopes
    pub most_rows : b.rows ≡ a.rows

  -- The node was run over the devices and a tree whose shelf was empty. No device was read beyond the limit, and each stands on the shelf or was never
  -- opened; the root is closed as the node ended, and the tree was left alone.
  pub record LeavesNode (told : V → DeviceTold) (n : Node) (devices : List V) (home : ℕ → DeviceTold) (a b : Seen V) (how : How) (unopened : List V) : Type 0 where
    pub same : (p : ℕ) → SameDevice (told_at told (site_of n a devices) p) (home p)
    pub within : (p : ℕ) → (home p).at ≤ 2 ^ 40
    pub parted : Parted told home b.shelf (first_of (places_of n) + length devices) (first_of (places_of n)) unopened
    pub once : IsDistinct nat_eq (firsts (said b.shelf))
    pub rows : (x : Spent V) → IsAmong x b.shelf → IsWithin (first_of (places_of n)) (first_of (places_of n) + length devices) x.row
    pub root : IsClosedScope b 0
    pub exits : (x : Exit) → Notes b.seat.events b.seat.by (Close 0 x) → x ≡ exit_of how
    pub calls : Called (FinishesDevice told) a [] b
    pub alone : StaysAlone a.seat b.seat
    pub room : UsesNoMore n a b
