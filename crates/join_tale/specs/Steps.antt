-- What a collector does, and what keeps its tale.
use Rattle.std.specs.Prelude.{◌≡◌, ◌≢◌, ◌⊎◌, ℕ, suc, ◌<◌, true, false, ◌||◌, List, [], ◌∷◌, ◌++◌, length, Some, None}
use Rattle.chunk_core.specs.declared.code.Code.{Code}
use Rattle.chunk_core.specs.declared.code.How.{How}
use Rattle.chunk_core.specs.declared.code.How.TheVariants as how
use Rattle.interrupt_ctx.specs.Views.{interruption}
use Rattle.interrupt_ctx.specs.declared.view.Interruption.{Interruption}
use Rattle.interrupt_ctx.specs.declared.why.Stop.{Stop}
use Rattle.interrupt_ctx.specs.declared.why.Why.TheVariants as why
use Rattle.res_ledger.specs.declared.event.StreamNo.{StreamNo}
use Rattle.run_rules.specs.Facts.{is_memory}
use Rattle.chunk_core.specs.Lists.{IsAmong}
use Rattle.join_tale.specs.Bounds.{Bounds, is_in_turn}
use Rattle.join_tale.specs.Keeping.{HadTurn, HasRoom, IsOuterStopped, IsOuterTold, IsOwnCode, IsTale, Obeys}
use Rattle.join_tale.specs.Tales.{AreCaused, Fate, HasCome, IsBegun, IsCaused, IsFoundSet, IsKnown, IsOpen, Tale, end_of, frames_of, load_of}
use Rattle.join_tale.specs.Tales.Fate.{Begun, Skipped, Unmade}

-- before the first message
abbrev pub first_tale : Tale
first_tale = record { front = []; late = []; fates = []; outer = None; set = []; seen = []; obeyed = []; ceased = false; cut = None; memory = false; pulled = []; room = λ k. [] }

-- these were set, and those found set
abbrev pub learned : Tale → List Interruption → List Interruption → Tale
learned t vs cs = record t { set = t.set ++ vs; seen = t.seen ++ cs }

-- these streams were halted by what they found
abbrev pub heeded : Tale → List (StreamNo × Stop) → Tale
heeded t os = record t { obeyed = t.obeyed ++ os }

-- the next stream has this fate
abbrev pub fated : Tale → Fate → Tale
fated t f = record t { fates = t.fates ++ f ∷ [] }

-- the outer stream is pulled in the turn of the next stream
abbrev pub pulled : Tale → Tale
pulled t = record t { pulled = length t.fates ∷ t.pulled }

-- so it is told which streams were open
abbrev pub housed : Tale → (ℕ → List ℕ) → Tale
housed t room = record t { room = room }

-- a load is written as a frame
abbrev pub written : Tale → ℕ → List ℕ → Tale
written t k x = record t { front = t.front ++ load_of k x ∷ [] }

-- a load comes too late to be written
abbrev pub dropped : Tale → ℕ → List ℕ → Tale
dropped t k x = record t { late = t.late ++ load_of k x ∷ [] }

-- the write of a load fails
abbrev pub failed : Tale → ℕ → List ℕ → Tale
failed t k x = record t { late = load_of k x ∷ []; cut = Some (record { stream = k; payload = x }); ceased = true }

-- a load comes and there is no memory to render it: it is the first that comes too late to be written
abbrev pub lacked : Tale → ℕ → List ℕ → Tale
lacked t k x = record t { late = load_of k x ∷ []; ceased = true; memory = true }

-- an end comes while frames are written
abbrev pub ended : Tale → ℕ → How → Tale
ended t k h = record t { front = t.front ++ end_of k h ∷ []; ceased = is_memory h; memory = is_memory h }

-- an end comes later
abbrev pub ended_late : Tale → ℕ → How → Tale
ended_late t k h = record t { late = t.late ++ end_of k h ∷ []; memory = t.memory || is_memory h }

-- there was no memory to make the next stream
abbrev pub unmade : Tale → Tale
unmade t = record (fated t Unmade) { ceased = true; memory = true }

-- the outer stream ended
abbrev pub outer_ended : Tale → How → Tale
outer_ended t h = record t { outer = Some h; ceased = t.ceased || is_memory h; memory = t.memory || is_memory h }

-- the code was set in the context, or one was found there
pub data Marks (context : ℕ) (w : Stop) : List Interruption → List Interruption → Type 0 where
  fresh : Marks context w (interruption context w ∷ []) []
  stale : (there : Stop) → Marks context w [] (interruption context there ∷ [])

-- what is known when the end h of stream k is received: u is the tale behind it, and vs was set since
pub record TellsEnd (bounds : Bounds) (u : Tale) (k : ℕ) (h : How) (vs : List Interruption) : Type 0 where
  pub caused : AreCaused bounds u vs
  pub halted : h ≡ how.Halted → Obeys bounds u k
  pub fault : (c : Code) → h ≡ how.Fault c → IsKnown u 0
  pub memory : h ≡ how.Memory → IsKnown u 0
  pub until : (i : ℕ) → bounds.until i ≡ Some k → IsKnown u (suc i)

-- what is known when the outer stream has ended so
pub record TellsOuter (bounds : Bounds) (u : Tale) (h : How) (vs : List Interruption) : Type 0 where
  pub caused : AreCaused bounds u vs
  pub halted : h ≡ how.Halted → IsOuterTold u
  pub fault : (c : Code) → h ≡ how.Fault c → IsKnown u 0
  pub memory : h ≡ how.Memory → IsKnown u 0

-- fewer than `width` streams are open
abbrev pub AreFewOpen : ℕ → Tale → Type 0
AreFewOpen width t = (others : List ℕ) × (length others < width) × ((k : ℕ) → IsOpen t k → IsAmong k others)

-- the next stream has room if that is told so, and of those that had their turn it is told as before
pub record MakesRoom (bounds : Bounds) (t : Tale) (room : ℕ → List ℕ) : Type 0 where
  pub is_tale : IsTale bounds (housed t room)
  pub has : HasRoom bounds (housed t room)
  pub same : (k : ℕ) → HadTurn t k → room k ≡ t.room k

-- a stream may begin: its contexts aren't set, it has room, and where one stream is open at a time all that were begun have ended
pub record MayBegin (bounds : Bounds) (t : Tale) : Type 0 where
  pub run : ¬ (IsKnown t 0)
  pub own : ¬ (IsKnown t (suc (length t.fates)))
  pub alone : is_in_turn bounds ≡ true → (j : ℕ) → IsBegun t j → HasCome t j
  pub room : HasRoom bounds t

-- how a tale begins, and what keeps it
pub record StepsKeepTale (bounds : Bounds) : Type 0 where
  pub starts : bounds.most ≢ Some 0 → IsTale bounds first_tale
  pub starts_met : (w : Stop) (vs cs : List Interruption) → w.why ≡ why.Take → Marks 0 w vs cs → bounds.most ≡ Some 0 → IsTale bounds (record (learned first_tale vs cs) { ceased = true })
  pub learns : (t : Tale) (vs cs : List Interruption) → IsTale bounds t → AreCaused bounds t vs → IsTale bounds (learned t vs cs)
  pub heeds : (t : Tale) (os : List (StreamNo × Stop)) → IsTale bounds t → IsTale bounds (heeded t os)
  pub houses : (t : Tale) → IsTale bounds t → AreFewOpen bounds.max_open t → (room : ℕ → List ℕ) × MakesRoom bounds t room
  pub pulls : (t : Tale) → IsTale bounds t → ¬ (IsKnown t 0) → HasRoom bounds t → IsTale bounds (pulled t)
  pub begins : (t : Tale) → IsTale bounds t → MayBegin bounds t → IsTale bounds (fated t Begun)
  pub skips : (t : Tale) → IsTale bounds t → IsFoundSet t 0 ⊎ IsOwnCode bounds t (length t.fates) ⊎ IsOuterStopped t → IsTale bounds (fated t Skipped)
  pub wants : (t : Tale) (w : Stop) (vs cs : List Interruption) → w.why ≡ why.Memory → Marks 0 w vs cs → IsTale bounds t → IsTale bounds (learned (unmade t) vs cs)
  pub writes : (t : Tale) (k : ℕ) (x : List ℕ) → IsTale bounds t → t.ceased ≡ false → IsOpen t k → 0 < length x → bounds.most ≢ Some (suc (length (frames_of t.front))) → IsTale bounds (written t k x)
  pub meets : (t : Tale) (k : ℕ) (x : List ℕ) (w : Stop) (vs cs : List Interruption) → w.why ≡ why.Take → Marks 0 w vs cs → IsTale bounds t → t.ceased ≡ false → IsOpen t k → 0 < length x → bounds.most ≡ Some (suc (length (frames_of t.front))) → IsTale bounds (record (learned (written t k x) vs cs) { ceased = true })
  pub fails : (t : Tale) (k : ℕ) (x : List ℕ) (w : Stop) (vs cs : List Interruption) → w.why ≡ why.Sink → Marks 0 w vs cs → IsTale bounds t → t.ceased ≡ false → IsOpen t k → 0 < length x → IsTale bounds (learned (failed t k x) vs cs)
  pub lacks : (t : Tale) (k : ℕ) (x : List ℕ) (w : Stop) (vs cs : List Interruption) → w.why ≡ why.Memory → Marks 0 w vs cs → IsTale bounds t → t.ceased ≡ false → IsOpen t k → 0 < length x → IsTale bounds (learned (lacked t k x) vs cs)
  pub drops : (t : Tale) (k : ℕ) (x : List ℕ) → IsTale bounds t → t.ceased ≡ true → IsOpen t k → 0 < length x → IsTale bounds (dropped t k x)
  pub ends : (t : Tale) (k : ℕ) (h : How) (vs cs : List Interruption) → IsTale bounds t → t.ceased ≡ false → IsOpen t k → TellsEnd bounds (learned (ended t k h) vs cs) k h vs → IsTale bounds (learned (ended t k h) vs cs)
  pub ends_late : (t : Tale) (k : ℕ) (h : How) (vs cs : List Interruption) → IsTale bounds t → t.ceased ≡ true → IsOpen t k → TellsEnd bounds (learned (ended_late t k h) vs cs) k h vs → IsTale bounds (learned (ended_late t k h) vs cs)
  pub outer_ends : (t : Tale) (h : How) (vs cs : List Interruption) → IsTale bounds t → t.outer ≡ None → TellsOuter bounds (learned (outer_ended t h) vs cs) h vs → IsTale bounds (learned (outer_ended t h) vs cs)

-- a code that was set or found for its cause
pub record IsMarked (bounds : Bounds) (t : Tale) (context : ℕ) (vs : List Interruption) : Type 0 where
  pub caused : AreCaused bounds t vs
  pub known : IsKnown t context

-- what is marked is known, and caused
abbrev pub MarksAreKnown : Bounds → Type 0
MarksAreKnown bounds = (t : Tale) (context : ℕ) (w : Stop) (vs cs : List Interruption) → Marks context w vs cs → IsCaused bounds (learned t vs cs) context w.why → IsMarked bounds (learned t vs cs) context vs
