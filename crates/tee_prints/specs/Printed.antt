-- What was printed of the messages that came, and which ends were told.
use Rattle.std.specs.Prelude.{◌≡◌, ◌⊎◌, ℕ, ◌+◌, ◌<◌, Bool, true, false, List, [], ◌∷◌, ◌++◌, length, Option, Some}
use Rattle.chunk_core.specs.Lists.{IsAmong}
use Rattle.chunk_core.specs.Texts.{Frame, IsRestOf, frames_text}
use Rattle.chunk_core.specs.Totals.{IsAt}
use Rattle.chunk_core.specs.declared.code.How.{How}
use Rattle.chunk_core.specs.declared.code.How.TheVariants as how
use Rattle.channel_bounded.specs.declared.message.Msg.{Msg}
use Rattle.device_port.specs.Sink.{SinkTold, with_bytes}
use Rattle.tee_texts.specs.Texts.{end_message, frames_in}

-- the end that is told of a branch that ended so where its frames weren't printed any more
abbrev pub hidden : How → How
hidden how.Done = how.Halted
hidden (how.Fault c) = how.Halted
hidden how.Halted = how.Halted
hidden how.Memory = how.Memory

-- the end that is told where a write failed, or none did
abbrev pub told_end : Bool → How → How
told_end true h = hidden h
told_end false h = h

-- A write failed: the messages before it were printed, and of its frame a proper front.
pub record IsBroken (old new : SinkTold) (got printed : List Msg) : Type 0 where
  pub message : Msg
  pub after : List Msg
  pub got_is : got ≡ printed ++ message ∷ after
  pub frame : Frame
  pub frame_is : frames_in (message ∷ []) ≡ frame ∷ []
  pub rest : List ℕ
  pub front : IsRestOf (Some frame) rest
  pub wrote : new ≡ record (with_bytes old (frames_text (frames_in printed) ++ rest)) { faults = old.faults + 1 }

-- all messages that came were printed, or those up to the one whose frame could not be written
abbrev pub Writes : SinkTold → SinkTold → List Msg → List Msg → Bool → Type 0
Writes old new got printed false = (got ≡ printed) × (new ≡ with_bytes old (frames_text (frames_in printed)))
Writes old new got printed true = IsBroken old new got printed

-- the end of branch i that is told came among those that were printed; or behind them, and it is told as hidden
abbrev pub IsToldEnd : List Msg → List Msg → ℕ → How → Type 0
IsToldEnd got printed i told = IsAmong (end_message i told) printed ⊎ ((h : How) × IsAmong (end_message i h) got × (told ≡ hidden h))

-- what was printed of these messages of n branches, and the ends that are told of just those whose end came, as it came where no write failed
pub record Prints (n : ℕ) (old new : SinkTold) (got : List Msg) (ends : List (Option How)) (broken : Bool) : Type 0 where
  pub printed : List Msg
  pub writes : Writes old new got printed broken
  pub branches : length ends ≡ n
  pub told : (i : ℕ) (h : How) → IsAt ends i (Some h) → IsToldEnd got printed i h
  pub plain : broken ≡ false → (i : ℕ) (h : How) → IsAt ends i (Some h) → IsAmong (end_message i h) printed
  pub kept : (i : ℕ) (h : How) → i < n → IsAmong (end_message i h) got → (t : How) × IsAt ends i (Some t)

-- an end by which the branches are to stop: a fault, or want of memory
abbrev pub IsStop : How → Type 0
IsStop how.Done = ⊥
IsStop (how.Fault c) = Unit {0}
IsStop how.Halted = ⊥
IsStop how.Memory = Unit {0}

-- why the branches are to stop: a write failed, or such an end is told
abbrev pub MustStop : List (Option How) → Bool → Type 0
MustStop ends broken = (broken ≡ true) ⊎ ((i : ℕ) × (h : How) × IsAt ends i (Some h) × IsStop h)

-- the end of each branch is told
abbrev pub AreAllTold : List (Option How) → Type 0
AreAllTold ends = (i : ℕ) → i < length ends → (h : How) × IsAt ends i (Some h)

-- each of these numbers is below n
abbrev pub AreBelow : ℕ → List ℕ → Type 0
AreBelow n numbers = (k : ℕ) → IsAmong k numbers → k < n
