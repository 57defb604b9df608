-- What `flume` printed whole, and the source had whole.
use Rattle.std.specs.Prelude.{◌≡◌, ◌⊎◌, ℕ, ◌≤◌, List, ◌++◌, length, get_or, Option, Some}
use Rattle.std.specs.List.{AllByRecursion}
use Rattle.chunk_core.specs.Texts.{Frame, frames_text}
use Rattle.device_port.specs.Sink.{SinkTold, with_bytes}
use Rattle.device_port.specs.Source.{SourceTold}
use Rattle.cut_frames.specs.Frames.{IsDigit, IsSmallFrame, chosen}
use Rattle.cut_text.specs.declared.tail.TailEnd.{TailEnd}
use Rattle.cut_text.specs.declared.tail.TailEnd.TheVariants.{Whole, Memory}
use Rattle.cut_text.specs.declared.run.CutEnd.TheVariants as end
use Rattle.res_ledger.specs.declared.event.Event.{Event}
use Rattle.cut_text.specs.Cuttings.{IsCutting, most_read}
use Rattle.cut_text.specs.Tails.{IsJudged, IsTail}

-- a text of frames, behind which something stands that begins with no digit, as lines of ends and ledgers do
pub record IsWhole (s : SourceTold) (F : List Frame) (tail : List ℕ) : Type 0 where
  pub small : AllByRecursion IsSmallFrame F
  pub behind : ¬ (IsDigit (get_or tail 0 0))
  pub few : length (frames_text F ++ tail) ≤ most_read
  pub left : s.left ≡ Some (frames_text F ++ tail)

-- Of such a text the payloads that are asked for were passed on, and what stands behind the frames was told and judged, these and nothing else, wherever a
-- call ended with a tail.
abbrev pub GivesBack : Type 0
GivesBack = (wanted : Option ℕ) (s t : SourceTold) (o p q r : SinkTold) (F : List Frame) (tail : List ℕ) (e : TailEnd) → IsWhole s F tail → IsCutting wanted s t o p q r (end.Tail e)
    → (p ≡ with_bytes o (chosen wanted F)) × (r ≡ with_bytes q tail) × IsJudged tail e

-- the text of a whole tail is told as whole, where memory isn't wanting
abbrev pub TailIsWhole : Type 0
TailIsWhole = (tail : List ℕ) (lines : List (List ℕ)) (L : List Event) (e : TailEnd) → IsTail tail lines L → IsJudged tail e → (e ≡ Whole) ⊎ (e ≡ Memory)

-- a whole text is told neither as one that was cut within a frame nor as one that goes on as no frame does
abbrev pub IsNotRefused : Type 0
IsNotRefused = (wanted : Option ℕ) (s t : SourceTold) (o p q r : SinkTold) (F : List Frame) (tail : List ℕ) → IsWhole s F tail
    → (¬ (IsCutting wanted s t o p q r end.CutFrame)) × ((at : ℕ) → ¬ (IsCutting wanted s t o p q r (end.BadByte at)))
