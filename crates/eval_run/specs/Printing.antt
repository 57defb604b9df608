-- What is printed of results.
use Rattle.std.specs.Prelude.{◌≡◌, ◌<◌, Bool, true, false, List, [], ◌∷◌, ◌++◌, length, flat_map, Option, Some, None, Result, Ok, Err}
use Rattle.std.specs.List.{AllByRecursion}
use Rattle.chunk_core.specs.Elements.{elements, rendering_of}
use Rattle.chunk_core.specs.Texts.{Frame, frame_text, frames_text}
use Rattle.chunk_core.specs.declared.code.How.{How}
use Rattle.chunk_core.specs.declared.code.How.TheVariants as how
use Rattle.chunk_core.specs.declared.load.Load.{Load}
use Rattle.device_port.specs.Sink.{SinkTold, with_bytes, BreaksOff}
use Rattle.par_eval.specs.Hows.{IsDoneOrFault}
use Rattle.par_eval.specs.declared.work.Worked.{Worked}
use Rattle.eval_rules.specs.Answers.{framed}
use Rattle.eval_run.specs.declared.stop.Stop.{Stop}
use Rattle.eval_run.specs.declared.stop.Stop.TheVariants as stop

-- the frame of a result
abbrev pub frames_by : Load → List Frame
frames_by load = framed (rendering_of (elements load))

-- the frames of results, in order
abbrev pub frames_in : List Worked → List Frame
frames_in ws = flat_map (λ w. frames_by w.out) ws

-- a proper front of the load's frame was written
pub record BreaksFrame (old new : SinkTold) (load : Load) : Type 0 where
  pub some : 0 < length (elements load)
  pub breaks : BreaksOff old new (frame_text 0 (rendering_of (elements load)))

-- the load's frame was written, or a write failed, or memory was wanting and nothing was written
abbrev pub PrintsPart : {T : Type 0} → SinkTold → SinkTold → Load → Result T Stop → Type 0
PrintsPart old new load (Ok _) = new ≡ with_bytes old (frames_text (frames_by load))
PrintsPart old new load (Err (stop.Fault c)) = ⊥
PrintsPart old new load (Err stop.Unwritten) = BreaksFrame old new load
PrintsPart old new load (Err stop.Memory) = new ≡ old

-- the result was printed and more may follow; or it failed, and was printed still; or a write failed, or memory was wanting and nothing was written
abbrev pub PrintsResult : {T : Type 0} → SinkTold → SinkTold → Worked → Result T Stop → Type 0
PrintsResult old new w (Ok _) = (w.how ≡ how.Done) × (new ≡ with_bytes old (frames_text (frames_by w.out)))
PrintsResult old new w (Err (stop.Fault c)) = (w.how ≡ how.Fault c) × (new ≡ with_bytes old (frames_text (frames_by w.out)))
PrintsResult old new w (Err stop.Unwritten) = IsDoneOrFault w.how × BreaksFrame old new w.out
PrintsResult old new w (Err stop.Memory) = new ≡ old

-- why nothing may be printed behind it, if so
abbrev pub stop_of : {T : Type 0} → Result T Stop → Option Stop
stop_of (Ok _) = None
stop_of (Err s) = Some s

-- how stream 0 ended whose reading ended so, where this stopped its printing
abbrev pub ending_of : How → Option Stop → How
ending_of h None = h
ending_of h (Some (stop.Fault c)) = how.Fault c
ending_of h (Some stop.Unwritten) = how.Halted
ending_of h (Some stop.Memory) = how.Memory

-- a write failed
abbrev pub is_unwritten : Option Stop → Bool
is_unwritten (Some stop.Unwritten) = true
is_unwritten (Some (stop.Fault c)) = false
is_unwritten (Some stop.Memory) = false
is_unwritten None = false

-- memory was wanting
abbrev pub is_wanting : Option Stop → Bool
is_wanting (Some stop.Memory) = true
is_wanting (Some (stop.Fault c)) = false
is_wanting (Some stop.Unwritten) = false
is_wanting None = false

-- how the printing stopped, of which these results were printed and those are left
abbrev pub StopsAt : SinkTold → SinkTold → List Worked → List Worked → Option Stop → Type 0
StopsAt old new front rest None = (rest ≡ []) × (new ≡ with_bytes old (frames_text (frames_in front)))
StopsAt old new front rest (Some stop.Memory) = new ≡ with_bytes old (frames_text (frames_in front))
StopsAt old new front [] (Some (stop.Fault c)) = ⊥
StopsAt old new front (w ∷ rest) (Some (stop.Fault c)) = (w.how ≡ how.Fault c) × (new ≡ with_bytes old (frames_text (frames_in front ++ frames_by w.out)))
StopsAt old new front [] (Some stop.Unwritten) = ⊥
StopsAt old new front (w ∷ rest) (Some stop.Unwritten) = IsDoneOrFault w.how × BreaksFrame (with_bytes old (frames_text (frames_in front))) new w.out

-- of these results, taken one after another, so many were printed, each of which was done
pub record Printed (old new : SinkTold) (ws : List Worked) (s : Option Stop) : Type 0 where
  pub front : List Worked
  pub rest : List Worked
  pub whole : ws ≡ front ++ rest
  pub done : AllByRecursion (λ w. w.how ≡ how.Done) front
  pub stops : StopsAt old new front rest s
