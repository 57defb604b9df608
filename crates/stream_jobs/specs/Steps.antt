-- One look, and what a stepper does by what it found.
use Rattle.std.specs.Prelude.{◌≡◌, ◌⊎◌, ℕ, ◌+◌, List, Option, Some, None}
use Rattle.std.specs.Option.{option_or}
use Rattle.chunk_core.specs.Tables.{Values}
use Rattle.chunk_core.specs.declared.code.How.{How}
use Rattle.chunk_core.specs.declared.code.How.TheVariants as how
use Rattle.chunk_core.specs.declared.load.Load.{Load}
use Rattle.channel_bounded.specs.declared.message.Msg.{Msg}
use Rattle.device_port.specs.Device.{DeviceTold}
use Rattle.interrupt_ctx.specs.Ends.{HasFound, HasSet, SeatSeen}
use Rattle.interrupt_ctx.specs.Views.{after_look}
use Rattle.interrupt_ctx.specs.declared.view.Look.{Look}
use Rattle.interrupt_ctx.specs.declared.why.Stop.{Stop}
use Rattle.interrupt_ctx.specs.declared.why.Why.{Why}
use Rattle.interrupt_ctx.specs.declared.why.Why.TheVariants as why
use Rattle.pull_turns.specs.Piping.{StateMeaning}
use Rattle.pull_turns.specs.declared.turn.Turn.{Turn}
use Rattle.pull_turns.specs.declared.turn.Turn.TheVariants as turn
use Rattle.pull_stepper.specs.Behind.{ClosesRootBehind}
use Rattle.pull_stepper.specs.Stepping.{Halts, Stepping, TakesTurn, Wants}
use Rattle.stream_jobs.specs.Messages.{IsNews}

-- the load that a turn gives, where it gives one
abbrev pub load_in : Turn → Option Load
load_in (turn.Chunk l) = Some l
load_in turn.Quiet = None
load_in turn.Done = None
load_in (turn.Fault c) = None

-- the seat looked at the context once, and its last look is that one
abbrev pub LooksOnce : ℕ → SeatSeen → SeatSeen → Type 0
LooksOnce context old new = new ≡ record old { view = after_look old.view context new.view.last.own new.view.last.root }

-- the seat has interrupted the whole run for this cause, or found that it was interrupted before
abbrev pub StopsRun : SeatSeen → SeatSeen → Why → Type 0
StopsRun old new cause = ((stop : Stop) × (stop.why ≡ cause) × HasSet old new 0 stop) ⊎ ((there : Stop) × HasFound old new 0 there)

-- the whole run is interrupted by an end that is a fault or want of memory, and by no other
abbrev pub Interrupts : How → SeatSeen → SeatSeen → Type 0
Interrupts how.Done old new = new ≡ old
Interrupts how.Halted old new = new ≡ old
Interrupts (how.Fault c) old new = StopsRun old new why.Fault
Interrupts how.Memory old new = StopsRun old new why.Memory

module _ {V F : Type 0} (P : Values → StateMeaning F) (told : V → DeviceTold) where
  -- a turn was made, which gave this load or none, or memory was wanting in it and the stepper was halted
  abbrev pub Stepped : Stepping V F → Stepping V F → Option Load → Type 0
  Stepped a b load = ((t : Turn) × TakesTurn P told a b t × (load ≡ load_in t)) ⊎ ((m : Stepping V F) × Wants P told a m × Halts told m b × (load ≡ None))

  -- where a stop was found the stepper was halted behind the front that this names, else it made one turn
  abbrev pub ObeysFound : Option Stop → Stepping V F → Stepping V F → Option Load → Type 0
  ObeysFound (Some stop) a b load = Halts told a b × (load ≡ None) × ClosesRootBehind b.site.tree.seat stop.at
  ObeysFound None a b load = Stepped a b load

  abbrev pub Obeys : Look → Stepping V F → Stepping V F → Option Load → Type 0
  Obeys look a b load = ObeysFound (option_or look.own look.root) a b load

  -- The stepper s of stream k was run on by one look of the seat: where a stop was found it was halted behind it, else it made one turn. Unless it has ended it goes on behind that; where it has
  -- ended, a fault and want of memory interrupted the whole run. This is what is to be said of it.
  pub record MovesOn (k : ℕ) (s : Stepping V F) (running : Option (Stepping V F)) (old new : SeatSeen) (fresh : List Msg) : Type 0 where
    pub looked : SeatSeen
    pub looks : LooksOnce (1 + k) old looked
    pub behind : Stepping V F
    pub load : Option Load
    pub obeys : Obeys looked.view.last s behind load
    pub stays : behind.how ≡ None → (running ≡ Some behind) × (new ≡ looked)
    pub leaves : (h : How) → behind.how ≡ Some h → (running ≡ None) × Interrupts h looked new
    pub says : IsNews k behind.how load fresh
