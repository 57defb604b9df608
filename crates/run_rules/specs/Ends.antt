-- Why the streams ended as they did, and that nothing begins after a stop.
use Rattle.std.specs.Prelude.{◌≡◌, ◌≢◌, ◌⊎◌, ℕ, ◌+◌, ◌<◌, ◌≤◌, true, false, List, ◌∷◌, ◌++◌, map, length, Option, Some, None, IfSome, option_map}
use Rattle.std.specs.List.{last_or, AllByRecursion}
use Rattle.chunk_core.specs.Lists.{IsAmong}
use Rattle.chunk_core.specs.declared.code.Code.{Code}
use Rattle.chunk_core.specs.declared.code.Code.TheVariants as code
use Rattle.chunk_core.specs.declared.code.Exit.{Exit}
use Rattle.chunk_core.specs.declared.code.Exit.TheVariants.{Canceled}
use Rattle.chunk_core.specs.declared.code.How.{How}
use Rattle.chunk_core.specs.declared.code.How.TheVariants as how
use Rattle.chunk_core.specs.Texts.{Frame}
use Rattle.res_ledger.specs.declared.event.StreamNo.{StreamNo}
use Rattle.res_ledger.specs.declared.event.StreamNo.TheVariants.{Outer, Inner}
use Rattle.res_ledger.specs.declared.event.What.TheVariants.{Close}
use Rattle.res_ledger.specs.declared.event.Event.{Event}
use Rattle.res_ledger.specs.Ledger.{IsLeased, NotesClose}
use Rattle.res_ledger.specs.Whole.{is_cancel}
use Rattle.device_port.specs.Device.{Place, DeviceTold}
use Rattle.run_rules.specs.declared.end.EndOf.{EndOf}
use Rattle.run_rules.specs.Devices.{came_back}
use Rattle.run_rules.specs.Facts.{Acts, HasLeft, IsFailure, IsOver, has_event, leased_stream, root_exit}
use Rattle.run_rules.specs.Opening.{HasOuterEnd}
use Rattle.run_rules.specs.Work.{Work, Opener, RunRecord, begun_frames, most_of, names_of, places_by, runs_in_turn, until_by}

-- Why a stream may be halted.

-- what j does may stop k: where one stream is open at a time k isn't before j; the outer stream stops all, and all stop it
abbrev pub MayStop : Work → StreamNo → StreamNo → Type 0
MayStop work (Inner j) (Inner k) = runs_in_turn work ≡ true → j ≤ k
MayStop work j k = Unit {0}

-- the stream of the frame that was begun last
abbrev pub last_stream : RunRecord → Option ℕ
last_stream c = option_map (λ f. f.stream) (last_or None (begun_frames c))

-- no more is printed: a write failed, or as many frames were printed as may be
abbrev pub IsSilenced : Work → RunRecord → Type 0
IsSilenced work c = (c.cut ≢ None) ⊎ (most_of work ≡ Some (length c.frames))

-- no more is printed, which may stop k
abbrev pub SilenceStops : Work → RunRecord → StreamNo → Type 0
SilenceStops work c k = IsSilenced work c × IfSome (last_stream c) (λ j. MayStop work (Inner j) k)

-- wherever k closed its root, j had closed its own before
abbrev pub ClosesBefore : List Event → StreamNo → StreamNo → Type 0
ClosesBefore L j k = (P Q : List Event) (e : Event) (x : Exit) → L ≡ P ++ e ∷ Q → e.by ≡ k → e.what ≡ Close 0 x → NotesClose P j 0

-- a stream failed that may stop k, before k closed its root
abbrev pub FaultStops : Work → RunRecord → StreamNo → Type 0
FaultStops work c k = (e : EndOf) × IsAmong e c.ends × IsFailure e.how × MayStop work e.who k × ClosesBefore c.events e.who k

-- the stream has ended whose end stops k
abbrev pub EndStops : Work → RunRecord → StreamNo → Type 0
EndStops work c k = (j : ℕ) × (until_by work k ≡ Some j) × HasLeft j c.events × MayStop work (Inner j) k

-- it had ended before k closed its root
abbrev pub EndStopsInTime : Work → RunRecord → StreamNo → Type 0
EndStopsInTime work c k = (j : ℕ) × (until_by work k ≡ Some j) × HasLeft j c.events × MayStop work (Inner j) k × ClosesBefore c.events (Inner j) k

-- why a stream may be halted: no more is printed, memory was wanting, a stream failed before it closed its root, or the one had ended by then whose end stops it
abbrev pub HasCauseToHalt : Work → RunRecord → StreamNo → Type 0
HasCauseToHalt work c k = SilenceStops work c k ⊎ (c.memory ≡ true) ⊎ FaultStops work c k ⊎ EndStopsInTime work c k

-- Why a stream may fail.

-- the count of the act that a fault names, if it names one
abbrev pub act_count : Code → Option (DeviceTold → ℕ)
act_count code.Open = Some (λ d. d.open_faults)
act_count code.Read = Some (λ d. d.read_faults)
act_count code.Write = Some (λ d. d.write_faults)
act_count _ = None

-- a fault of an act is shown by a device that was made in the run for one of the places
abbrev pub IsShown : List DeviceTold → List Place → How → Type 0
IsShown ds ps (how.Fault c) = IfSome (act_count c) (λ n. (d : DeviceTold) × IsAmong d ds × IsAmong d.place ps × (0 < n d))
IsShown ds ps h = Unit {0}

-- The ends.

-- the stream ended by itself or noted something, or it is the outer one
abbrev pub HasBegun : EndOf → List Event → Type 0
HasBegun e L = IsOver e.how ⊎ Acts e.who L ⊎ (e.who ≡ Outer)

-- the end comes by its cause, and a stream that has begun closed its root
pub record EndIsCaused (work : Work) (c : RunRecord) (e : EndOf) : Type 0 where
  pub halted : e.how ≡ how.Halted → HasCauseToHalt work c e.who
  pub fault : IsShown (came_back c.depot_old c.depot_new) (places_by work e.who) e.how
  pub root : HasBegun e c.events → NotesClose c.events e.who 0

-- Stopping.

-- no stream above j noted anything
abbrev pub IsLast : ℕ → List Event → Type 0
IsLast j L = (k : ℕ) → Acts (Inner k) L → k ≤ j

-- Where one stream is open at a time, none begins behind one that failed or found no memory, none behind the one that printed last where
-- no more is printed, none behind the one whose end stops it, and none behind one that was halted, unless the end of another stopped that. However many
-- are open, none begins behind one that was halted before it began, unless the end of another stopped that, and none where nothing may be printed.
pub record IsStopped (work : Work) (c : RunRecord) : Type 0 where
  pub failed : runs_in_turn work ≡ true → (e : EndOf) (j : ℕ) → IsAmong e c.ends → e.who ≡ Inner j → IsFailure e.how ⊎ (e.how ≡ how.Memory) → IsLast j c.events
  pub silenced : runs_in_turn work ≡ true → IsSilenced work c → IfSome (last_stream c) (λ j. IsLast j c.events)
  pub ended : runs_in_turn work ≡ true → (j k : ℕ) → until_by work (Inner k) ≡ Some j → j < k → HasLeft j c.events → ¬ (Acts (Inner k) c.events)
  pub halted : (e : EndOf) (k : ℕ) → IsAmong e c.ends → e.who ≡ Inner k → e.how ≡ how.Halted → (runs_in_turn work ≡ true) ⊎ ¬ (Acts (Inner k) c.events) → EndStops work c (Inner k) ⊎ IsLast k c.events
  pub nobody : most_of work ≡ Some 0 → (e : Event) → IsAmong e c.events → e.by ≡ Outer

-- Whose turn it was, and which streams were open then.

-- The event shows that stream k had its turn: k noted it; or with it the outer stream went on behind k: it leased for the next one, or it closed its root, not as
-- one that is stopped, k being the last that it had leased for.
abbrev pub IsTurn : List Event → ℕ → Event → Type 0
IsTurn L k e = (e.by ≡ Inner k) ⊎ (leased_stream e.what ≡ Some (k + 1)) ⊎ ((e.by ≡ Outer) × ((x : Exit) × (root_exit e.what ≡ Some x) × (x ≢ Canceled)) × IsLeased L k × ¬ (IsLeased L (k + 1)))

-- an event shows so
abbrev pub HadTurn : List Event → ℕ → Type 0
HadTurn L k = (e : Event) × IsAmong e L × IsTurn L k e

-- no stream above j had its turn
abbrev pub IsLastTurn : ℕ → List Event → Type 0
IsLastTurn j L = (k : ℕ) → HadTurn L k → k ≤ j

-- stream i hadn't left when k had its turn: before an event that shows this its lease has no Cancel
abbrev pub WasIn : List Event → ℕ → ℕ → Type 0
WasIn L k i = (P Q : List Event) × (e : Event) × (L ≡ P ++ e ∷ Q) × IsTurn L k e × (has_event (is_cancel i) P ≡ false)

-- a frame of stream i stands behind one of stream k
abbrev pub PrintsBehind : List Frame → ℕ → ℕ → Type 0
PrintsBehind F k i = (A B : List Frame) × (f g : Frame) × (F ≡ A ++ g ∷ B) × (g.stream ≡ k) × IsAmong f B × (f.stream ≡ i)

-- the end of stream i stopped those that hadn't begun: it failed or found no memory, or it was halted and not by the end that stops it
abbrev pub HasStoppedAll : Work → RunRecord → ℕ → Type 0
HasStoppedAll work c i = (e : EndOf) × IsAmong e c.ends × (e.who ≡ Inner i) × (IsFailure e.how ⊎ (e.how ≡ how.Memory) ⊎ ((e.how ≡ how.Halted) × ¬ (EndStops work c (Inner i))))

-- stream k began, and stream i printed behind it or its end stops k
abbrev pub OutlastsBegin : Work → RunRecord → ℕ → ℕ → Type 0
OutlastsBegin work c k i = Acts (Inner k) c.events × (PrintsBehind (begun_frames c) k i ⊎ ((until_by work (Inner k) ≡ Some i) × HasLeft i c.events))

-- As the record shows it, stream i was open when k had its turn: it hadn't left, its end stopped those that hadn't begun, or it printed last where no more is printed;
-- or k began then, and it printed behind k or its end stops k.
abbrev pub WasOpen : Work → RunRecord → ℕ → ℕ → Type 0
WasOpen work c k i = WasIn c.events k i ⊎ HasStoppedAll work c i ⊎ (IsSilenced work c × (last_stream c ≡ Some i)) ⊎ OutlastsBegin work c k i

-- fewer than `width` of the streams before k were open when it had its turn
abbrev pub HadRoom : ℕ → Work → RunRecord → ℕ → Type 0
HadRoom width work c k = (others : List ℕ) × (length others < width) × ((i : ℕ) → i < k → WasOpen work c k i → IsAmong i others)

-- Each stream had its turn in room that was there, which none had left whose end stops it or all that hadn't begun: the outer stream went on behind it then, and it began. None had its turn
-- behind one that wasn't begun, unless the end of another stopped that.
pub record TakeTurns (width : ℕ) (work : Work) (c : RunRecord) : Type 0 where
  pub room : (k : ℕ) → HadTurn c.events k → HadRoom width work c k
  pub passed : (e : EndOf) (k : ℕ) → IsAmong e c.ends → e.who ≡ Inner k → ¬ (Acts (Inner k) c.events) → EndStops work c (Inner k) ⊎ IsLastTurn k c.events

-- where there is an outer stream, its streams took turns
abbrev pub BeginInRoom : Option Opener → Work → RunRecord → Type 0
BeginInRoom None work c = Unit {0}
BeginInRoom (Some o) work c = TakeTurns o.max_open work c

-- memory was wanting where an end says so
pub record HaveEnds (work : Work) (c : RunRecord) (w : ℕ → DeviceTold) : Type 0 where
  pub named : map (λ e. e.who) c.ends ≡ names_of work
  pub caused : AllByRecursion (EndIsCaused work c) c.ends
  pub outer : HasOuterEnd work.opener work.listing (length work.streams) c w c.ends
  pub stopped : IsStopped work c
  pub begins : BeginInRoom work.opener work c
  pub memory : (e : EndOf) → IsAmong e c.ends → e.how ≡ how.Memory → c.memory ≡ true
