-- One stream that is stepped by its caller, whoever takes what it gives.
use Rattle.std.specs.Prelude.{◌≡◌, ℕ, ◌≤◌, List, [], Option, Some, None}
use Rattle.chunk_core.specs.Elements.{Element, LoadKind, elements}
use Rattle.chunk_core.specs.Outcomes.{End}
use Rattle.chunk_core.specs.Tables.{Values, no_values}
use Rattle.chunk_core.specs.declared.code.How.{How}
use Rattle.chunk_core.specs.declared.code.How.TheVariants as how
use Rattle.chunk_core.specs.declared.load.Load.{Load}
use Rattle.device_port.specs.Device.{DeviceTold}
use Rattle.pull_nodes.specs.declared.node.Node.{Node}
use Rattle.pull_stepper.specs.Held.{FinishesDevice}
use Rattle.pull_stepper.specs.Sites.{Since, around, told_at}
use Rattle.pull_stepper.specs.Stepping.{CanGo, HasRoomFor, IsOver, IsSupplied, Stepping, begun}
use Rattle.pull_turns.specs.Around.{Goes}
use Rattle.pull_turns.specs.Led.{Led}
use Rattle.pull_turns.specs.Piping.{HasKind, StateMeaning}
use Rattle.pull_turns.specs.Failures.{IsToldRunOfRest}
use Rattle.pull_turns.specs.Turned.{Spends, SpendsWithin}
use Rattle.res_ledger.specs.declared.event.StreamNo.{StreamNo}
use Rattle.run_rules.specs.Outputs.{IsReported}
use Rattle.scope_tree.specs.Calls.{Seen}
use Rattle.lone_stream.specs.Rooms.{IsFresh}

-- the elements of a load, where one came
abbrev pub elements_by : Option Load → List Element
elements_by None = []
elements_by (Some load) = elements load

-- how a stream stands that is halted, where it hasn't ended
abbrev pub halted_from : Option How → Option How
halted_from None = Some how.Halted
halted_from (Some h) = Some h

-- P: what the states of pipes mean, over tables with these values
module _ {V F : Type 0} (P : Values → StateMeaning F) (told : V → DeviceTold) where
  -- a stepper of this stream that made no turn: it has the node, with a device for each of its places, and a tree of a fresh seat, with room for just what the node may do; it reads at most chunk
  -- bytes at once and looks up in no table
  pub record IsBegun (who : StreamNo) (n : Node) (devices : List V) (chunk : ℕ) (a : Stepping V F) : Type 0 where
    pub tree : Seen V
    pub tables : Values
    pub is : a ≡ begun n tree devices tables chunk
    pub none : (P tables).values ≡ no_values
    pub fresh : IsFresh who n tree
    pub room : HasRoomFor tree n
    pub supplied : IsSupplied told n devices
    pub some : 1 ≤ chunk

  -- turns were made since a, which gave these elements, and more may be made, of which loads of this kind come
  pub record StepsOn (k : LoadKind) (a b : Stepping V F) (given : List Element) : Type 0 where
    pub can : CanGo P told b
    pub tables : b.tables ≡ a.tables
    pub chunk : b.chunk ≡ a.chunk
    pub spends : Spends (around told a.site) (around told b.site) a.rest b.rest
    pub led : Led (P a.tables) (told_at told a.site) (told_at told b.site) a.rest b.rest given
    pub kind : HasKind (P a.tables) k b.rest

  -- turns were made since a, which gave these elements, and it has ended so, by itself or halted
  pub record HasEnded (a b : Stepping V F) (given : List Element) (h : How) : Type 0 where
    pub end : End
    pub run : IsToldRunOfRest (P a.tables) (told_at told b.site) a.rest given end
    pub reported : IsReported end h
    pub over : IsOver told b
    pub goes : (p : ℕ) → Goes (told_at told a.site p) (told_at told b.site p)
    pub spends : SpendsWithin (around told a.site) (around told b.site) a.rest

  abbrev pub StepsTo : LoadKind → Stepping V F → Stepping V F → List Element → Option How → Type 0
  StepsTo k a b given None = StepsOn k a b given
  StepsTo k a b given (Some h) = HasEnded a b given h

  -- turns were made since a, which gave these elements, and it goes on or has ended
  pub record IsStepped (k : LoadKind) (a b : Stepping V F) (given : List Element) : Type 0 where
    pub since : Since told (FinishesDevice told) a.site b.site
    pub at : StepsTo k a b given b.how

module _ {V F : Type 0} (told : V → DeviceTold) where
  -- turns were made since a, and it may have been halted: of the room no more was spent than is counted
  pub record IsPast (a b : Stepping V F) : Type 0 where
    pub since : Since told (FinishesDevice told) a.site b.site
    pub goes : (p : ℕ) → Goes (told_at told a.site p) (told_at told b.site p)
    pub spends : SpendsWithin (around told a.site) (around told b.site) a.rest
