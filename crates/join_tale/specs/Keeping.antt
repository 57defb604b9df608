-- What holds of a tale at any time.
use Rattle.std.specs.Prelude.{◌≡◌, ◌≢◌, ◌⊎◌, ℕ, suc, ◌<◌, ◌≤◌, true, false, List, [], ◌∷◌, length, Some, None, is_some, IfSome}
use Rattle.std.specs.List.{last_or}
use Rattle.chunk_core.specs.Lists.{IsAmong}
use Rattle.chunk_core.specs.Texts.{Frame}
use Rattle.chunk_core.specs.declared.code.Code.{Code}
use Rattle.chunk_core.specs.declared.code.How.{How}
use Rattle.chunk_core.specs.declared.code.How.TheVariants as how
use Rattle.interrupt_ctx.specs.Views.{interruption}
use Rattle.interrupt_ctx.specs.declared.why.Stop.{Stop}
use Rattle.res_ledger.specs.declared.event.StreamNo.TheVariants.{Outer, Inner}
use Rattle.run_rules.specs.Facts.{at}
use Rattle.run_rules.specs.Ends.{PrintsBehind}
use Rattle.run_rules.specs.Outputs.{NeverFall}
use Rattle.join_tale.specs.Bounds.{Bounds, is_in_turn}
use Rattle.join_tale.specs.Tales.{AreCaused, Body, Came, HasCome, HasMet, IsBegun, IsFoundSet, IsKnown, IsOpen, IsSet, Message, Tale, end_of, frames_begun, load_of, loads_of}
use Rattle.join_tale.specs.Tales.Body.{End, Load}
use Rattle.join_tale.specs.Tales.Fate.{Skipped, Unmade}

-- no stream above k was begun
abbrev pub IsHighest : Tale → ℕ → Type 0
IsHighest t k = (j : ℕ) → IsBegun t j → j ≤ k

-- where one stream is open at a time, none above k was begun
abbrev pub IsLast : Bounds → Tale → ℕ → Type 0
IsLast bounds t k = is_in_turn bounds ≡ true → IsHighest t k

-- where one stream is open at a time, the one has come whose end stops k, and it isn't above k
abbrev pub IsEndedInTurn : Bounds → Tale → ℕ → Type 0
IsEndedInTurn bounds t k = is_in_turn bounds ≡ true → (j : ℕ) × (bounds.until k ≡ Some j) × HasCome t j × (j ≤ k)

-- this was found in the context of k, or in that of all streams, and then none was begun behind k
abbrev pub IsToldBy : Bounds → Tale → ℕ → Stop → Type 0
IsToldBy bounds t k w = (IsAmong (interruption (suc k) w) t.seen × IsEndedInTurn bounds t k) ⊎ (IsAmong (interruption 0 w) t.seen × IsLast bounds t k)

-- stream k obeyed what was found for it
abbrev pub IsToldToHalt : Bounds → Tale → ℕ → Type 0
IsToldToHalt bounds t k = (w : Stop) × IsAmong (Inner k, w) t.obeyed × IsToldBy bounds t k w

-- the outer stream obeyed what was found in the context of all streams
abbrev pub IsOuterTold : Tale → Type 0
IsOuterTold t = (w : Stop) × IsAmong (Outer, w) t.obeyed × IsAmong (interruption 0 w) t.seen

-- k had its turn: it was begun, or the outer stream was pulled in it
abbrev pub HadTurn : Tale → ℕ → Type 0
HadTurn t k = IsBegun t k ⊎ IsAmong k t.pulled

-- no stream above k had its turn
abbrev pub IsLastTurn : Tale → ℕ → Type 0
IsLastTurn t k = (j : ℕ) → HadTurn t j → j ≤ k

-- the outer stream has ended, and not by itself
abbrev pub IsOuterStopped : Tale → Type 0
IsOuterStopped t = (h : How) × (t.outer ≡ Some h) × (h ≢ how.Done)

-- a code was found in the context of k; where one stream is open at a time, it had been set by then
abbrev pub IsOwnCode : Bounds → Tale → ℕ → Type 0
IsOwnCode bounds t k = IsFoundSet t (suc k) × (is_in_turn bounds ≡ true → IsSet t (suc k))

-- stream k obeyed what was found in the context of all streams, or in its own; where one stream is open at a time, a code had been set there by then
abbrev pub Obeys : Bounds → Tale → ℕ → Type 0
Obeys bounds t k = (w : Stop) × IsAmong (Inner k, w) t.obeyed × (IsAmong (interruption 0 w) t.seen ⊎ (IsAmong (interruption (suc k) w) t.seen × (is_in_turn bounds ≡ true → IsSet t (suc k))))

-- why k wasn't begun: a code was found that is its own, or one for all streams or the outer stream was stopped, and then none above k had its turn, however many may be open
abbrev pub IsPassedOver : Bounds → Tale → ℕ → Type 0
IsPassedOver bounds t k = (IsFoundSet t (suc k) × IsEndedInTurn bounds t k) ⊎ ((IsFoundSet t 0 ⊎ IsOuterStopped t) × IsLastTurn t k)

-- a load isn't empty
abbrev pub IsFull : Body → Type 0
IsFull (Load x) = 0 < length x
IsFull (End h) = Unit {0}

-- no more frames are written since enough were, a write failed, or memory was wanting
abbrev pub HasCeased : Bounds → Tale → Type 0
HasCeased bounds t = HasMet bounds t ⊎ (is_some t.cut ≡ true) ⊎ (t.memory ≡ true)

-- the first that came too late to be written is a load of stream k, though no write failed and not enough frames were printed
pub record LacksForLoad (bounds : Bounds) (t : Tale) (k : ℕ) : Type 0 where
  pub load : List ℕ
  pub others : List Message
  pub late : t.late ≡ load_of k load ∷ others
  pub uncut : t.cut ≡ None
  pub unmet : ¬ (HasMet bounds t)

-- memory was wanting for a stream that ended so, for the outer one, to make a stream, or to write a load
abbrev pub HasLacked : Bounds → Tale → Type 0
HasLacked bounds t = ((k : ℕ) × Came t k how.Memory) ⊎ (t.outer ≡ Some how.Memory) ⊎ ((k : ℕ) × (at t.fates k ≡ Some Unmade)) ⊎ ((k : ℕ) × LacksForLoad bounds t k)

-- the frames and the loads that came too late to be written
pub record KeepsFrames (bounds : Bounds) (t : Tale) : Type 0 where
  pub quiet : t.ceased ≡ false → (t.late ≡ []) × (t.cut ≡ None) × (t.memory ≡ false)
  pub ceased : t.ceased ≡ true → HasCeased bounds t
  pub met : HasMet bounds t → t.ceased ≡ true
  pub few : IfSome bounds.most (λ n. length (frames_begun t) ≤ n)
  pub cut : (f : Frame) → t.cut ≡ Some f → (ms : List Message) × (t.late ≡ load_of f.stream f.payload ∷ ms)
  pub in_turn : is_in_turn bounds ≡ true → NeverFall (frames_begun t)
  pub last : HasMet bounds t ⊎ (is_some t.cut ≡ true) → (f : Frame) → last_or None (frames_begun t) ≡ Some f → IsLast bounds t f.stream
  pub whole : (k : ℕ) (h : How) → IsAmong (end_of k h) t.front → loads_of k t.late ≡ []
  pub ours : (m : Message) → IsAmong m t.front ⊎ IsAmong m t.late → IsBegun t m.stream × IsFull m.body

-- the ends of the streams: each has one, and where one stream is open at a time nothing begins behind an end that stops the run
pub record KeepsEnds (bounds : Bounds) (t : Tale) : Type 0 where
  pub halted : (k : ℕ) → Came t k how.Halted → IsToldToHalt bounds t k
  pub fault : (k : ℕ) (c : Code) → Came t k (how.Fault c) → IsKnown t 0 × IsLast bounds t k
  pub memory : (k : ℕ) → Came t k how.Memory → (t.memory ≡ true) × IsLast bounds t k
  pub until : (j k : ℕ) → HasCome t j → bounds.until k ≡ Some j → IsKnown t (suc k) × (is_in_turn bounds ≡ true → IsBegun t k → k ≤ j)
  pub late : (k : ℕ) (h : How) → IsAmong (end_of k h) t.late → IsLast bounds t k
  pub in_turn : is_in_turn bounds ≡ true → (k : ℕ) → IsBegun t k → HasCome t k ⊎ ((j : ℕ) → IsBegun t j → j ≤ k)
  pub once : (k : ℕ) (h g : How) → Came t k h → Came t k g → h ≡ g
  pub apart : (k : ℕ) (h g : How) → IsAmong (end_of k h) t.front → ¬ (IsAmong (end_of k g) t.late)

-- the streams that weren't begun, and the outer one
pub record KeepsFates (bounds : Bounds) (t : Tale) : Type 0 where
  pub skipped : (k : ℕ) → at t.fates k ≡ Some Skipped → IsPassedOver bounds t k
  pub unmade : (k : ℕ) → at t.fates k ≡ Some Unmade → (t.memory ≡ true) × IsLastTurn t k
  pub nobody : bounds.most ≡ Some 0 → IsKnown t 0 × ((k : ℕ) → ¬ (IsBegun t k))
  pub outer_halted : t.outer ≡ Some how.Halted → IsOuterTold t
  pub outer_fault : (c : Code) → t.outer ≡ Some (how.Fault c) → IsKnown t 0
  pub outer_memory : t.outer ≡ Some how.Memory → t.memory ≡ true

-- Which streams were open when another one had its turn.

-- i has come to an end by which no further stream begins: it failed or found no memory, it was halted and not by its own code, its end came too late, or there was no memory to make it
abbrev pub HasEndedAll : Bounds → Tale → ℕ → Type 0
HasEndedAll bounds t i = ((c : Code) × Came t i (how.Fault c)) ⊎ Came t i how.Memory ⊎ (Came t i how.Halted × ¬ (IsFoundSet t (suc i) × IsEndedInTurn bounds t i)) ⊎ ((h : How) × IsAmong (end_of i h) t.late) ⊎ (at t.fates i ≡ Some Unmade)

-- no more is printed, and i printed last
abbrev pub PrintedLast : Bounds → Tale → ℕ → Type 0
PrintedLast bounds t i = (HasMet bounds t ⊎ (is_some t.cut ≡ true)) × (f : Frame) × (last_or None (frames_begun t) ≡ Some f) × (f.stream ≡ i)

-- i is open, or it was when k had its turn: by its end no further stream begins, or it printed last; or k was begun then, and i printed behind it or its end stops k
abbrev pub WasOpen : Bounds → Tale → ℕ → ℕ → Type 0
WasOpen bounds t k i = IsOpen t i ⊎ HasEndedAll bounds t i ⊎ PrintedLast bounds t i ⊎ (IsBegun t k × (PrintsBehind (frames_begun t) k i ⊎ ((bounds.until k ≡ Some i) × HasCome t i)))

-- the streams before k that were open when it had its turn are among those that are told, which are fewer than may be
abbrev pub HadRoom : Bounds → Tale → ℕ → Type 0
HadRoom bounds t k = (length (t.room k) < bounds.max_open) × ((i : ℕ) → i < k → WasOpen bounds t k i → IsAmong i (t.room k))

-- the next stream has room: the streams that are open are among those that are told, which are fewer than may be
abbrev pub HasRoom : Bounds → Tale → Type 0
HasRoom bounds t = (length (t.room (length t.fates)) < bounds.max_open) × ((i : ℕ) → IsOpen t i → IsAmong i (t.room (length t.fates)))

-- each stream had its turn in room that was there, and the next one has it still where the outer stream was pulled in its turn
pub record KeepsRoom (bounds : Bounds) (t : Tale) : Type 0 where
  pub had : (k : ℕ) → HadTurn t k → HadRoom bounds t k
  pub now : IsAmong (length t.fates) t.pulled → (i : ℕ) → IsOpen t i → IsAmong i (t.room (length t.fates))
  pub next : (k : ℕ) → IsAmong k t.pulled → k ≤ length t.fates

pub record IsTale (bounds : Bounds) (t : Tale) : Type 0 where
  pub frames : KeepsFrames bounds t
  pub ends : KeepsEnds bounds t
  pub fates : KeepsFates bounds t
  pub room : KeepsRoom bounds t
  pub caused : AreCaused bounds t t.set
  pub lacked : t.memory ≡ true → HasLacked bounds t
  pub stop : t.ceased ≡ true → IsKnown t 0
