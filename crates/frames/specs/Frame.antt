-- The frames of the output.
use Rattle.std.specs.Prelude.{◌≡◌, ◌≢◌, ℕ, List, [], ◌∷◌, ◌++◌, decimal, Result, Ok, Err}
use Rattle.chunk_core.specs.Elements.{Bytes, elements, kind_of, rendering_of}
use Rattle.chunk_core.specs.Texts.{frame_text}
use Rattle.chunk_core.specs.declared.load.Load.{Load}
use Rattle.device_port.specs.Sink.{SinkTold, with_bytes, BreaksOff}
use Rattle.frames.specs.declared.frame.NotPut.{NotPut}
use Rattle.frames.specs.declared.frame.NotPut.TheVariants as why

-- the first line of a frame
abbrev pub header_text : ℕ → ℕ → List ℕ
header_text stream size = decimal stream ++ (32 ∷ [] ++ (decimal size ++ 10 ∷ []))

-- the text was written, or a proper front of it and then a call failed
abbrev pub PutsText : {T : Type 0} → SinkTold → SinkTold → List ℕ → Result T NotPut → Type 0
PutsText old new text (Ok _) = new ≡ with_bytes old text
PutsText old new text (Err why.Unwritten) = BreaksOff old new text
PutsText old new text (Err why.Memory) = ⊥

-- the load's frame was written or a proper front of it, or memory was wanting for another load than bytes
abbrev pub PutsLoad : {T : Type 0} → SinkTold → SinkTold → ℕ → Load → Result T NotPut → Type 0
PutsLoad old new stream load (Ok _) = new ≡ with_bytes old (frame_text stream (rendering_of (elements load)))
PutsLoad old new stream load (Err why.Unwritten) = BreaksOff old new (frame_text stream (rendering_of (elements load)))
PutsLoad old new stream load (Err why.Memory) = (new ≡ old) × (kind_of load ≢ Bytes)
