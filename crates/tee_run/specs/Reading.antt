-- What a reader gives that is stepped, and what the branches were given of it.
use Rattle.std.specs.Prelude.{◌≡◌, ◌⊎◌, Bool, true, false, List, Option, Some, Result, Ok, Err}
use Rattle.chunk_core.specs.Elements.{Bytes, Element, LoadKind}
use Rattle.chunk_core.specs.Feed.{Meaning}
use Rattle.chunk_core.specs.Tables.{Values}
use Rattle.chunk_core.specs.declared.code.Code.{Code}
use Rattle.chunk_core.specs.declared.code.How.{How}
use Rattle.chunk_core.specs.declared.code.How.TheVariants as how
use Rattle.device_port.specs.Device.{DeviceTold}
use Rattle.device_port.specs.Sink.{SinkTold}
use Rattle.pull_nodes.specs.Plain.{IsFront}
use Rattle.pull_stepper.specs.Stepping.{Stepping}
use Rattle.pull_turns.specs.Piping.{StateMeaning}
use Rattle.lone_stream.specs.Steps.{IsStepped}
use Rattle.tee_prints.specs.Printed.{MustStop}
use Rattle.tee_pump.specs.Branches.{SharedSeen}
use Rattle.tee_pump.specs.Finished.{IsCause, IsFinished}
use Rattle.tee_pump.specs.Pumps.{IsPumping}
use Rattle.tee_pump.specs.declared.pump.Pump.{Pump}
use Rattle.tee_pump.specs.declared.ended.TeeEnd.{TeeEnd}

-- the end that is told of a reader that ended so: where memory for the branches was wanting it was halted for that
abbrev pub told_how : Bool → How → How
told_how true h = how.Memory
told_how false h = h

-- P: what the states of the reader's pipes mean; StandsFor and Comes: what the pipes of the branches stand for
module _ {V F C : Type 0} (P : Values → StateMeaning F) (told : V → DeviceTold) (StandsFor : C → Meaning → List Element → Type 0) (Comes : C → LoadKind → List Element → Option Code → Type 0) (s : SharedSeen) (ms : List Meaning) (start : SinkTold) where
  -- since a the reader gave just what the branches were given, and it was halted only where they must stop
  pub record IsTeeing (a b : Stepping V F) (now : SinkTold) (p : Pump C) : Type 0 where
    pub given : List Element
    pub stepped : IsStepped P told Bytes a b given
    pub pumping : IsPumping StandsFor Comes s ms start given now p
    pub halted : b.how ≡ Some how.Halted → MustStop p.printer.ends.items p.printer.broken

  -- memory for the branches was wanting: they were given a front of what it gave, and it was halted
  pub record IsCutShort (a b : Stepping V F) (now : SinkTold) (p : Pump C) : Type 0 where
    pub given : List Element
    pub taken : List Element
    pub front : IsFront taken given
    pub ended : b.how ≡ Some how.Halted
    pub stepped : IsStepped P told Bytes a b given
    pub pumping : IsPumping StandsFor Comes s ms start taken now p

  abbrev pub GivesOn : {T E : Type 0} → Stepping V F → Stepping V F → SinkTold → Pump C → Result T E → Type 0
  GivesOn a b now p (Ok _) = IsTeeing a b now p
  GivesOn a b now p (Err _) = IsCutShort a b now p

  -- it has ended, and memory for the branches was wanting, or they were given all
  abbrev pub HasRead : Stepping V F → Stepping V F → SinkTold → Pump C → Bool → Type 0
  HasRead a b now p true = IsCutShort a b now p
  HasRead a b now p false = IsTeeing a b now p × ((h : How) × (b.how ≡ Some h))

module _ {V F : Type 0} (P : Values → StateMeaning F) (told : V → DeviceTold) (ms : List Meaning) where
  -- Since a the reader gave these elements, of which the branches took a front, and it is told to have ended so. They took all of it, and it was halted
  -- only where a branch or a write failed, unless memory was wanting.
  pub record HasTeed (a b : Stepping V F) (start now : SinkTold) (h : How) (t : TeeEnd) : Type 0 where
    pub given : List Element
    pub taken : List Element
    pub front : IsFront taken given
    pub end : How
    pub ended : b.how ≡ Some end
    pub stepped : IsStepped P told Bytes a b given
    pub told_so : (h ≡ end) ⊎ ((h ≡ how.Memory) × (end ≡ how.Halted))
    pub all : h ≡ how.Done → taken ≡ given
    pub caused : h ≡ how.Halted → IsCause t
    pub finished : IsFinished ms taken h start now t
