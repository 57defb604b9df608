-- What printing a stream to its end does.
use Rattle.std.specs.Prelude.{◌≡◌, ◌≢◌, ◌⊎◌, ℕ, Bool, true, false, Option, Some, Result, Ok, Err}
use Rattle.chunk_core.specs.Elements.{Bytes, elements, kind_of, rendering_of}
use Rattle.chunk_core.specs.Outcomes.{Outcomes}
use Rattle.chunk_core.specs.Tables.{Values}
use Rattle.chunk_core.specs.Texts.{frame_text}
use Rattle.chunk_core.specs.declared.code.How.{How}
use Rattle.chunk_core.specs.declared.code.How.TheVariants as how
use Rattle.chunk_core.specs.declared.load.Load.{Load}
use Rattle.device_port.specs.Sink.{SinkTold, with_bytes, BreaksOff}
use Rattle.device_port.specs.Device.{DeviceTold}
use Rattle.pull_turns.specs.Piping.{StateMeaning}
use Rattle.pull_turns.specs.Failures.{IsToldRunOfRest}
use Rattle.pull_turns.specs.Sizes.{HasNoPipe, widest}
use Rattle.pull_stepper.specs.Sites.{told_at}
use Rattle.pull_stepper.specs.Stepping.{Stepping}
use Rattle.run_rules.specs.Facts.{is_over}
use Rattle.cat_run.specs.declared.stopped.Stopped.{Stopped}
use Rattle.cat_run.specs.declared.stopped.Stopped.TheVariants as stopped
use Rattle.cat_run.specs.Alone.{AreSmall, PrintsPieces, IsRunIn}

-- a write failed
abbrev pub is_unwritten : Stopped → Bool
is_unwritten stopped.Ended = false
is_unwritten stopped.Unwritten = true
is_unwritten stopped.Memory = false

-- memory was wanting
abbrev pub is_wanting : Stopped → Bool
is_wanting stopped.Ended = false
is_wanting stopped.Unwritten = false
is_wanting stopped.Memory = true

-- the end of a stream of which no more is printed for this cause
abbrev pub EndsBy : Stopped → How → Type 0
EndsBy stopped.Ended h = is_over h ≡ true
EndsBy stopped.Unwritten h = h ≡ how.Halted
EndsBy stopped.Memory h = (h ≡ how.Halted) ⊎ (h ≡ how.Memory)

-- the load's frame was written, or a proper front of it was written, or memory was wanting for another load than bytes
abbrev pub PrintsOne : {T : Type 0} → SinkTold → SinkTold → ℕ → Load → Result T Stopped → Type 0
PrintsOne old new k load (Ok _) = new ≡ with_bytes old (frame_text k (rendering_of (elements load)))
PrintsOne old new k load (Err stopped.Unwritten) = BreaksOff old new (frame_text k (rendering_of (elements load)))
PrintsOne old new k load (Err stopped.Memory) = (new ≡ old) × (kind_of load ≢ Bytes)
PrintsOne old new k load (Err stopped.Ended) = ⊥

-- Stream k has ended, and pieces of a run were printed: all of them, or up to where this stopped it; without a pipe none has more than size elements.
pub record PrintsRun (runs : Outcomes) (Plain : Type 0) (size k : ℕ) (old new : SinkTold) (ended : Option How) (r : Stopped) : Type 0 where
  pub how : How
  pub ended_is : ended ≡ Some how
  pub ends : EndsBy r how
  pub printed : PrintsPieces k old new (is_unwritten r)
  pub small : Plain → AreSmall size printed.pieces printed.next
  pub run : IsRunIn runs printed.pieces printed.next (is_unwritten r) (is_wanting r) how

-- a stepper was run to its end: what was printed as stream k are pieces of a run of what was left of its node
abbrev pub PrintsAll : {V F : Type 0} → (Values → StateMeaning F) → (V → DeviceTold) → ℕ → Stepping V F → Stepping V F → SinkTold → SinkTold → Stopped → Type 0
PrintsAll P told k a b old new r = PrintsRun (IsToldRunOfRest (P a.tables) (told_at told b.site) a.rest) (HasNoPipe a.rest) (widest a.chunk a.rest) k old new b.how r
