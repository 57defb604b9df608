-- What is known while groups are dealt and what came of them is printed.
use Rattle.std.specs.Prelude.{◌≡◌, ℕ, List, [], map, length, Option, Some, None}
use Rattle.chunk_core.specs.Elements.{Element, elements}
use Rattle.chunk_core.specs.Tables.{Values}
use Rattle.chunk_core.specs.declared.load.Load.{Load}
use Rattle.device_port.specs.Device.{DeviceTold}
use Rattle.device_port.specs.Sink.{SinkTold}
use Rattle.eval_hands.specs.Crews.{IsCrew}
use Rattle.eval_hands.specs.declared.crew.Crew.{Crew}
use Rattle.eval_reader.specs.Reading.{HasStopped, IsWhole, SeenReader, text_of}
use Rattle.par_eval.specs.Lanes.{LaneHubs}
use Rattle.par_eval.specs.Messages.{AreResults, Meaning}
use Rattle.par_eval.specs.declared.work.Worked.{Worked}
use Rattle.pull_stepper.specs.Stepping.{Stepping}
use Rattle.pull_turns.specs.Piping.{StateMeaning}
use Rattle.eval_run.specs.Printing.{Printed}
use Rattle.eval_run.specs.declared.stop.Stop.{Stop}

-- the loads are the texts of the groups, in order
abbrev pub AreTexts : List Load → List (List Element) → Type 0
AreTexts ds gs = map elements ds ≡ map text_of gs

module _ {W : Type 0} (result_of : W → Meaning) (work : W) (hubs : List LaneHubs) where
  -- the crew has dealt these loads, and the results that were taken were printed up to where this stopped it
  pub record IsPumping (c : Crew W) (old new : SinkTold) (ds : List Load) (ws : List Worked) (s : Option Stop) : Type 0 where
    pub crew : IsCrew result_of work hubs c ds ws
    pub printed : Printed old new ws s

-- a reader of which only the stepper is left
abbrev pub read_by : {V F : Type 0} → Stepping V F → SeenReader V F
read_by b = record { stepper = b; text = []; count = 0; waiting = [] }

module _ {V F : Type 0} (P : Values → StateMeaning F) (told : V → DeviceTold) where
  -- the reading has ended, and these groups are all where nothing stopped it, and else the first ones
  abbrev pub HasRead : ℕ → Stepping V F → Stepping V F → List (List Element) → Option Stop → Type 0
  HasRead n a b gs None = IsWhole P told n a (read_by b) gs
  HasRead n a b gs (Some s) = HasStopped P told n a (read_by b) gs

  -- the texts of the groups were dealt, and results are still out
  pub record DealsAll {W : Type 0} (result_of : W → Meaning) (work : W) (hubs : List LaneHubs) (n : ℕ) (a b : Stepping V F) (c : Crew W) (old new : SinkTold) (s : Option Stop) : Type 0 where
    pub ds : List Load
    pub gs : List (List Element)
    pub ws : List Worked
    pub texts : AreTexts ds gs
    pub pumping : IsPumping result_of work hubs c old new ds ws s
    pub read : HasRead n a b gs s

  -- the texts of the groups were dealt, and all results were taken, and printed up to where this stopped it
  pub record HasPumped (f : Meaning) (n : ℕ) (a b : Stepping V F) (old new : SinkTold) (s : Option Stop) : Type 0 where
    pub ds : List Load
    pub gs : List (List Element)
    pub ws : List Worked
    pub texts : AreTexts ds gs
    pub printed : Printed old new ws s
    pub read : HasRead n a b gs s
    pub results : AreResults f ds ws
    pub count : length ws ≡ length ds
