-- What callers see of a stepper, and what its calls do.
use Rattle.std.specs.Prelude.{◌≡◌, ℕ, ◌+◌, ◌*◌, ◌<◌, ◌≤◌, ◌^◌, Bool, true, false, List, [], length, map, Option, Some, None, IsSome, nat_eq}
use Rattle.chunk_core.specs.declared.code.Exit.{Exit}
use Rattle.chunk_core.specs.declared.code.Exit.TheVariants as exit
use Rattle.chunk_core.specs.declared.code.How.{How}
use Rattle.chunk_core.specs.declared.code.How.TheVariants as how
use Rattle.chunk_core.specs.declared.code.Span.{Span}
use Rattle.chunk_core.specs.Lists.{IsAmong}
use Rattle.chunk_core.specs.Outcomes.{exit_of}
use Rattle.chunk_core.specs.Tables.{Values}
use Rattle.device_port.specs.Device.{DeviceTold}
use Rattle.device_port.specs.declared.device.Mode.{Mode}
use Rattle.device_port.specs.declared.device.Mode.TheVariants as mode
use Rattle.pull_nodes.specs.Kinds.{node_kind}
use Rattle.pull_nodes.specs.Placed.{is_placed}
use Rattle.pull_nodes.specs.Shape.{EachRead, EachWrite, node_count, places_of, scope_count}
use Rattle.pull_nodes.specs.declared.node.Node.{Node}
use Rattle.pull_turns.specs.Around.{Affords, IsClosedWith}
use Rattle.pull_turns.specs.Led.{CanBeCut, IsShut, TouchesOnly, Turns, Uncons}
use Rattle.pull_turns.specs.Moves.{how_of}
use Rattle.pull_turns.specs.Piping.{StateMeaning}
use Rattle.pull_turns.specs.Rest.{CanStep}
use Rattle.pull_turns.specs.Sizes.{HasNoPipe, Sized, given, given_first}
use Rattle.pull_turns.specs.Turned.{GoesOn, Spends, SpendsWithin}
use Rattle.pull_turns.specs.declared.rest.Rest.{Rest}
use Rattle.pull_turns.specs.declared.rest.Rest.TheVariants as rest
use Rattle.pull_turns.specs.declared.turn.Turn.{Turn}
use Rattle.pull_turns.specs.declared.runner.Unconsed.{Unconsed}
use Rattle.pull_turns.specs.declared.runner.Unconsed.TheVariants as unconsed
use Rattle.res_ledger.specs.declared.event.What.TheVariants.{Close}
use Rattle.res_ledger.specs.Ledger.{Notes}
use Rattle.res_ledger.specs.Order.{firsts}
use Rattle.res_ledger.specs.Own.{opens}
use Rattle.row_seat.specs.Views.{IsWithin}
use Rattle.scope_tree.specs.Calls.{IsClosedScope, IsOpenScope, Seen, used}
use Rattle.std.specs.List.{IsDistinct}
use Rattle.scope_tree.specs.Released.{said}
use Rattle.scope_tree.specs.Trace.{owed, trace}
use Rattle.pull_stepper.specs.Placing.{first_of}
use Rattle.pull_stepper.specs.Sites.{IsUnused, Parted, Site, around, slot_of, told_at}

-- its tree and devices, what is left of the node, the values of its tables, the most bytes of a read, how it ended, and whether memory was wanting
pub record Stepping (V F : Type 0) : Type 0 where
  pub site : Site V
  pub rest : Rest F
  pub tables : Values
  pub chunk : ℕ
  pub how : Option How
  pub wanting : Bool

-- so many rows from the least place of the node on
abbrev pub span_of : Node → ℕ → Span
span_of n count = record { from = first_of (places_of n); to = first_of (places_of n) + count }

module _ {V : Type 0} where
  -- nothing is open in the tree but its root, the rows are empty, and there is room for what the node may open and acquire
  pub record HasRoomFor (a : Seen V) (n : Node) : Type 0 where
    pub root : IsOpenScope a 0
    pub owed : owed a.seat ≡ 1
    pub opened : a.seat.opened ≡ []
    pub empty : (p : ℕ) → IsWithin (span_of n (length (places_of n))).from (span_of n (length (places_of n))).to p → IsAmong p a.seat.empty
    pub events : 2 * length (places_of n) + 2 * scope_count n + 1 ≤ a.seat.spare
    pub scopes : length (opens (trace a.seat)) + 1 + scope_count n ≤ a.scopes
    pub rows : used a + length (places_of n) ≤ a.rows

  -- the tree, and the devices of the node's places, which wait
  abbrev pub site_of : Node → Seen V → List V → Site V
  site_of n a devices = record { tree = a; from = first_of (places_of n); slots = map Some devices }

  -- a stepper that made no turn
  abbrev pub begun : {F : Type 0} → Node → Seen V → List V → Values → ℕ → Stepping V F
  begun n a devices tables chunk = record {
    site = site_of n a devices;
    rest = rest.Start n;
    tables = tables;
    chunk = chunk;
    how = None;
    wanting = false;
  }

  -- the device of the place p, where the devices are those of the places from i on, is for this
  abbrev pub IsFor : (V → DeviceTold) → ℕ → List V → Mode → ℕ → Type 0
  IsFor told i devices m p = (d : V) → slot_of p i (map Some devices) ≡ Some (Some d) → (told d).place.mode ≡ m

  -- each place of the node has one device, which nothing was done with and which is for what the node does there, and is acquired once and read or
  -- written once; each pipe takes what comes to it
  pub record IsSupplied (told : V → DeviceTold) (n : Node) (devices : List V) : Type 0 where
    pub kind : IsSome (node_kind n)
    pub few : node_count n < 2 ^ 32
    pub placed : is_placed (span_of n (length devices)) n ≡ true
    pub count : length devices ≡ length (places_of n)
    pub unused : (d : V) → IsAmong d devices → IsUnused (told d)
    pub reads : EachRead (IsFor told (first_of (places_of n)) devices mode.Read) n
    pub writes : EachWrite (IsFor told (first_of (places_of n)) devices mode.Write) n

-- how a run ends that is stopped
abbrev pub stopped_by : Bool → How
stopped_by true = how.Memory
stopped_by false = how.Halted

-- P: what the states of pipes mean, over tables with these values
module _ {V F : Type 0} (P : Values → StateMeaning F) (told : V → DeviceTold) where
  -- turns may be made
  pub record CanGo (a : Stepping V F) : Type 0 where
    pub how : a.how ≡ None
    pub memory : a.wanting ≡ false
    pub chunk : 0 < a.chunk
    pub step : CanStep (P a.tables) (around told a.site) 0 a.rest

  -- a turn was made
  pub record TakesTurn (a b : Stepping V F) (t : Turn) : Type 0 where
    pub turns : Turns (P a.tables) (around told a.site) (around told b.site) a.chunk a.rest b.rest t
    pub sized : HasNoPipe a.rest → Sized a.chunk a.rest b.rest (given t)
    pub how : b.how ≡ how_of t
    pub can : GoesOn t → CanGo b
    pub tables : b.tables ≡ a.tables
    pub chunk : b.chunk ≡ a.chunk

  -- whether turns may be made after it
  abbrev pub LeavesItRunning : Unconsed → Stepping V F → Type 0
  LeavesItRunning (unconsed.Chunk l) b = CanGo b
  LeavesItRunning (unconsed.End h) b = (b.how ≡ Some h) × IsShut (around told b.site) × IsClosedWith (around told b.site) 0 (exit_of h)
  LeavesItRunning unconsed.Again b = CanGo b

  -- turns were made to the first load or the end, but not more than n; where neither came, n turns were made, and each was quiet
  pub record Unconses (n : ℕ) (a b : Stepping V F) (u : Unconsed) : Type 0 where
    pub first : Uncons (P a.tables) (around told) a.chunk n a.site b.site a.rest b.rest b.how u
    pub sized : HasNoPipe a.rest → Sized a.chunk a.rest b.rest (given_first u)
    pub spends : Spends (around told a.site) (around told b.site) a.rest b.rest
    pub leaves : LeavesItRunning u b
    pub tables : b.tables ≡ a.tables
    pub chunk : b.chunk ≡ a.chunk

  -- memory was wanting; it may only be halted, and what was left was left so
  pub record Wants (a b : Stepping V F) : Type 0 where
    pub memory : b.wanting ≡ true
    pub how : b.how ≡ None
    pub root : IsOpenScope b.site.tree 0
    pub tells : TouchesOnly (told_at told a.site) (told_at told b.site) a.rest
    pub spends : SpendsWithin (around told a.site) (around told b.site) a.rest
    pub cut : CanBeCut (P a.tables) (told_at told b.site) a.rest
    pub tables : b.tables ≡ a.tables

module _ {V F : Type 0} (told : V → DeviceTold) where
  -- it has ended, and each scope and each device is closed, the root with the exit of its end
  pub record IsOver (a : Stepping V F) : Type 0 where
    pub how : How
    pub ended : a.how ≡ Some how
    pub shut : IsShut (around told a.site)
    pub exit : IsClosedWith (around told a.site) 0 (exit_of how)

  -- it was stopped, and the root was closed as canceled
  pub record Halts (a b : Stepping V F) : Type 0 where
    pub how : b.how ≡ Some (stopped_by a.wanting)
    pub shut : IsShut (around told b.site)
    pub exit : IsClosedWith (around told b.site) 0 exit.Canceled
    pub tells : TouchesOnly {F = F} (told_at told a.site) (told_at told b.site) rest.Nil
    pub affords : Affords (around told a.site) (around told b.site)
    pub tables : b.tables ≡ a.tables

  -- the root is closed, each Close of it has the exit of the end, and each device was never opened and comes back, or stands on the shelf, where no row stands twice
  pub record StepperEnds (a : Stepping V F) (left : Seen V) (h : How) (unopened : List V) : Type 0 where
    pub tree : left ≡ a.site.tree
    pub how : a.how ≡ Some h
    pub root : IsClosedScope left 0
    pub exit : (x : Exit) → Notes left.seat.events left.seat.by (Close 0 x) → x ≡ exit_of h
    pub once : IsDistinct nat_eq (firsts (said left.shelf))
    pub parted : Parted told (told_at told a.site) left.shelf (a.site.from + length a.site.slots) a.site.from unopened
