-- What a collector received, began and learned, as plain data.
use Rattle.std.specs.Prelude.{◌≡◌, ◌⊎◌, ℕ, suc, Bool, true, nat_eq, if◌then◌else◌, List, [], ◌∷◌, ◌++◌, flat_map, length, Option, Some, None, is_some}
use Rattle.chunk_core.specs.Lists.{IsAmong}
use Rattle.chunk_core.specs.Texts.{Frame}
use Rattle.chunk_core.specs.declared.code.Code.{Code}
use Rattle.chunk_core.specs.declared.code.How.{How}
use Rattle.chunk_core.specs.declared.code.How.TheVariants as how
use Rattle.interrupt_ctx.specs.Views.{interruption}
use Rattle.interrupt_ctx.specs.declared.view.Interruption.{Interruption}
use Rattle.interrupt_ctx.specs.declared.why.Stop.{Stop}
use Rattle.interrupt_ctx.specs.declared.why.Why.{Why}
use Rattle.interrupt_ctx.specs.declared.why.Why.TheVariants as why
use Rattle.res_ledger.specs.declared.event.StreamNo.{StreamNo}
use Rattle.res_ledger.specs.declared.event.StreamNo.TheVariants.{Outer, Inner}
use Rattle.run_rules.specs.Facts.{at}
use Rattle.join_tale.specs.Bounds.{Bounds}

-- what a stream sends: a load, or how it ended
pub data Body : Type 0 where
  Load : List ℕ → Body
  End : How → Body

pub record Message : Type 0 where
  pub stream : ℕ
  pub body : Body

abbrev pub load_of : ℕ → List ℕ → Message
load_of k x = record { stream = k; body = Load x }

abbrev pub end_of : ℕ → How → Message
end_of k h = record { stream = k; body = End h }

-- a stream was begun, or it wasn't: a code was found or the outer stream had ended, or there was no memory to make it
pub data Fate : Type 0 where
  Begun : Fate
  Skipped : Fate
  Unmade : Fate

-- `front` was received while frames were written, so that each of its loads is a frame, and `late` was received after. `fates` is what
-- became of each stream, in order, and `outer` how the outer one ended, if it has. `set` are the contexts that were set, also by the
-- seats that were taken in, and `seen` those found set; context 0 is that of all streams, and 1 + k that of stream k. `obeyed` are
-- the streams that were halted, each with what it found, behind which it closed its root. `ceased`: no
-- frame is written any more; `cut` is the frame whose write failed, which stands first in `late`; `memory`: memory was wanting.
-- `pulled` are the streams in whose turn the outer one was pulled, and `room` tells of each stream that had its turn which others were open then.
pub record Tale : Type 0 where
  pub front : List Message
  pub late : List Message
  pub fates : List Fate
  pub outer : Option How
  pub set : List Interruption
  pub seen : List Interruption
  pub obeyed : List (StreamNo × Stop)
  pub ceased : Bool
  pub cut : Option Frame
  pub memory : Bool
  pub pulled : List ℕ
  pub room : ℕ → List ℕ

-- the frames of a message
abbrev pub frames_in : Message → List Frame
frames_in m = elim m.body [ Load x ↦ record { stream = m.stream; payload = x } ∷ [] | End h ↦ [] ]

-- the frames of the loads, in order
abbrev pub frames_of : List Message → List Frame
frames_of ms = flat_map frames_in ms

-- the load of a message of stream k
abbrev pub loads_in : ℕ → Message → List (List ℕ)
loads_in k m = if nat_eq m.stream k then elim m.body [ Load x ↦ x ∷ [] | End h ↦ [] ] else []

-- the loads of stream k, in order
abbrev pub loads_of : ℕ → List Message → List (List ℕ)
loads_of k ms = flat_map (loads_in k) ms

-- the loads of stream k that were received, in order
abbrev pub loads_received : ℕ → Tale → List (List ℕ)
loads_received k t = loads_of k t.front ++ loads_of k t.late

-- the frames that were begun: those that were written, and the one whose write failed
abbrev pub frames_begun : Tale → List Frame
frames_begun t = frames_of t.front ++ elim t.cut [ Some f ↦ f ∷ [] | None ↦ [] ]

abbrev pub IsBegun : Tale → ℕ → Type 0
IsBegun t k = at t.fates k ≡ Some Begun

-- the end of k was received
abbrev pub Came : Tale → ℕ → How → Type 0
Came t k h = IsAmong (end_of k h) t.front ⊎ IsAmong (end_of k h) t.late

abbrev pub HasCome : Tale → ℕ → Type 0
HasCome t k = (h : How) × Came t k h

-- k was begun, and hasn't ended
abbrev pub IsOpen : Tale → ℕ → Type 0
IsOpen t k = IsBegun t k × ¬ (HasCome t k)

-- as many frames were printed as may be
abbrev pub HasMet : Bounds → Tale → Type 0
HasMet bounds t = bounds.most ≡ Some (length (frames_of t.front))

-- the stream failed, as the end tells that came of it, or as the outer one ended
abbrev pub FailedSo : Tale → StreamNo → Type 0
FailedSo t Outer = (c : Code) × (t.outer ≡ Some (how.Fault c))
FailedSo t (Inner k) = (c : Code) × Came t k (how.Fault c)

-- a stream failed, or the outer one
abbrev pub HasFailed : Tale → Type 0
HasFailed t = ((k : ℕ) × (c : Code) × Came t k (how.Fault c)) ⊎ ((c : Code) × (t.outer ≡ Some (how.Fault c)))

abbrev pub IsFoundSet : Tale → ℕ → Type 0
IsFoundSet t context = (w : Stop) × IsAmong (interruption context w) t.seen

abbrev pub IsSet : Tale → ℕ → Type 0
IsSet t context = (w : Stop) × IsAmong (interruption context w) t.set

-- a context is known to be set
abbrev pub IsKnown : Tale → ℕ → Type 0
IsKnown t context = IsSet t context ⊎ IsFoundSet t context

-- why a context is set
abbrev pub IsCaused : Bounds → Tale → ℕ → Why → Type 0
IsCaused bounds t context why.Take = (context ≡ 0) × HasMet bounds t
IsCaused bounds t context why.Until = (k j : ℕ) × (context ≡ suc k) × (bounds.until k ≡ Some j) × HasCome t j
IsCaused bounds t context why.Sink = (context ≡ 0) × (is_some t.cut ≡ true)
IsCaused bounds t context why.Memory = (context ≡ 0) × (t.memory ≡ true)
IsCaused bounds t context why.Fault = (context ≡ 0) × HasFailed t

-- each of these was set for its cause
abbrev pub AreCaused : Bounds → Tale → List Interruption → Type 0
AreCaused bounds t xs = (context : ℕ) (w : Stop) → IsAmong (interruption context w) xs → IsCaused bounds t context w.why
