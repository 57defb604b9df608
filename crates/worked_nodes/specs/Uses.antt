-- What a caller has that runs a node to its end.
use Rattle.std.specs.Prelude.{◌≡◌, ℕ, ◌+◌, ◌*◌, ◌≤◌, List, [], length, Option, Some, None}
use Rattle.chunk_core.specs.declared.code.Exit.{Exit}
use Rattle.chunk_core.specs.declared.code.How.{How}
use Rattle.chunk_core.specs.Elements.{Element}
use Rattle.chunk_core.specs.Outcomes.{exit_of}
use Rattle.device_port.specs.Device.{DeviceTold}
use Rattle.pull_nodes.specs.Failures.{IsToldRun}
use Rattle.pull_nodes.specs.Shape.{places_of, scope_count}
use Rattle.chunk_core.specs.Tables.{Values}
use Rattle.pull_nodes.specs.declared.node.Node.{Node}
use Rattle.pull_turns.specs.Around.{IsClosedWith}
use Rattle.pull_turns.specs.Led.{IsShut, end_by, end_of}
use Rattle.pull_turns.specs.Piping.{StateMeaning}
use Rattle.pull_turns.specs.Failures.{IsToldRunOfRest}
use Rattle.pull_turns.specs.Turned.{Over}
use Rattle.res_ledger.specs.declared.event.What.TheVariants.{Close}
use Rattle.res_ledger.specs.Ledger.{Notes}
use Rattle.scope_tree.specs.Calls.{IsClosedScope, IsOpenScope, Seen, used}
use Rattle.tree_laws.specs.Alone.{StaysAlone}
use Rattle.tree_laws.specs.Called.{Called}
use Rattle.pull_stepper.specs.Held.{FinishesDevice}
use Rattle.pull_stepper.specs.Sites.{Parted, SameDevice, around, told_at}
use Rattle.pull_stepper.specs.Stepping.{Stepping, site_of, span_of}

-- each Close of the root has the exit x
abbrev pub HasExit : {V : Type 0} → Seen V → Exit → Type 0
HasExit a x = (y : Exit) → Notes a.seat.events a.seat.by (Close 0 y) → y ≡ x

module _ {V F : Type 0} (P : Values → StateMeaning F) (told : V → DeviceTold) where
  -- what was given since a, and how it ended, if it has, is a run of what was left
  abbrev pub Gathers : Stepping V F → Stepping V F → List Element → Type 0
  Gathers a b xs = (w : ℕ → DeviceTold) → Over (told_at told b.site) w a.rest → IsToldRunOfRest (P a.tables) w a.rest xs (end_by b.how)

module _ {V : Type 0} (told : V → DeviceTold) where
  abbrev pub IsLeftBy : {F : Type 0} → Option How → Stepping V F → Type 0
  IsLeftBy None a = IsOpenScope a.site.tree 0
  IsLeftBy (Some h) a = IsShut (around told a.site) × IsClosedWith (around told a.site) 0 (exit_of h)

  -- its root is open, or it has ended and all is closed, the root with the exit of that end
  abbrev pub IsLeft : {F : Type 0} → Stepping V F → Type 0
  IsLeft a = IsLeftBy a.how a

  -- the node was run over these devices and tables with these values, gave xs and ended with h, which the Close of the root tells, and used no more room of the tree than the node counts
  pub record RanNode (t : Values) (n : Node) (devices : List V) (a b : Seen V) (xs : List Element) (h : How) (unopened : List V) : Type 0 where
    pub w : ℕ → DeviceTold
    pub run : IsToldRun t w n xs (end_of h)
    pub same : (p : ℕ) → SameDevice (told_at told (site_of n a devices) p) (w p)
    pub parted : Parted told w b.shelf (span_of n (length devices)).to (span_of n (length devices)).from unopened
    pub root : IsClosedScope b 0
    pub exit : HasExit b (exit_of h)
    pub calls : Called (FinishesDevice told) a [] b
    pub alone : StaysAlone a.seat b.seat
    pub events : a.seat.spare ≤ b.seat.spare + (2 * length (places_of n) + 2 * scope_count n + 1)
    pub rows : used b ≤ used a + length (places_of n)
