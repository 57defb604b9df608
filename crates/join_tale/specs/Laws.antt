-- What follows of a tale.
use Rattle.std.specs.Prelude.{◌≡◌, ◌≢◌, ◌⊎◌, ℕ, ◌<◌, true, false, ◌++◌, List, [], ◌∷◌, flat_map, length, Option, Some}
use Rattle.chunk_core.specs.Lists.{IsAmong}
use Rattle.chunk_core.specs.Outcomes.{Cut}
use Rattle.chunk_core.specs.Texts.{Frame, payloads_of}
use Rattle.chunk_core.specs.declared.code.How.{How}
use Rattle.chunk_core.specs.declared.code.How.TheVariants as how
use Rattle.run_rules.specs.declared.end.EndOf.{EndOf}
use Rattle.run_rules.specs.Facts.{at}
use Rattle.run_rules.specs.Outputs.{IsReported}
use Rattle.run_rules.specs.Work.{Opener, RunRecord, Stream}
use Rattle.join_tale.specs.Bounds.{Bounds, bounds_of}
use Rattle.join_tale.specs.Ended.{Ended}
use Rattle.join_tale.specs.Keeping.{IsTale}
use Rattle.join_tale.specs.Records.{Follows, IsRecordOf, IsSettled, IsUndisturbed, WantsFor, bare}
use Rattle.join_tale.specs.Steps.{dropped, ended, ended_late, failed, lacked, written}
use Rattle.join_tale.specs.Tales.{Came, HasCome, IsBegun, Message, Tale, frames_of, load_of, loads_in, loads_of, loads_received}
use Rattle.join_tale.specs.Tales.Fate.{Unmade}

-- a record that tells a tale, once what was found is set
abbrev pub RecordFollows : Opener → List Stream → Type 0
RecordFollows o ss = (t : Tale) (c : RunRecord) → IsTale (bounds_of o ss) t → IsSettled t → IsRecordOf (bare (Some o) ss) t c → Follows (bare (Some o) ss) c

-- for what memory was wanting, where a record says so that tells a tale
abbrev pub MemoryWasWanting : Opener → List Stream → Type 0
MemoryWasWanting o ss = (t : Tale) (c : RunRecord) → IsTale (bounds_of o ss) t → IsRecordOf (bare (Some o) ss) t c → c.memory ≡ true → WantsFor o ss t c

-- where nothing stopped a stream, each is done
abbrev pub UndisturbedIsDone : Option Opener → List Stream → Type 0
UndisturbedIsDone o ss = (c : RunRecord) → Follows (bare o ss) c → IsUndisturbed (bare o ss) c → (e : EndOf) → IsAmong e c.ends → e.how ≡ how.Done

-- each stream ended in one way, once the ends of all that were begun were received
pub record StreamsEndOnce (bounds : Bounds) : Type 0 where
  pub some : (t : Tale) (k : ℕ) → ((j : ℕ) → IsBegun t j → HasCome t j) → k < length t.fates → (h : How) × Ended t k h
  pub one : (t : Tale) (k : ℕ) (h g : How) → IsTale bounds t → Ended t k h → Ended t k g → h ≡ g

-- the end came with all its loads printed, or the stream was stopped
abbrev pub IsPrinted : Tale → ℕ → How → Type 0
IsPrinted t k h = (Came t k h × (loads_of k t.late ≡ [])) ⊎ IsReported Cut h

-- what was printed of each stream: the loads received while frames were written, in order
pub record OutputsFollow (bounds : Bounds) : Type 0 where
  pub payloads : (k : ℕ) (ms : List Message) → payloads_of k (frames_of ms) ≡ flat_map (λ x. x) (loads_of k ms)
  pub ended : (t : Tale) (k : ℕ) (h : How) → IsTale bounds t → Ended t k h → IsPrinted t k h
  pub cut : (t : Tale) (f : Frame) → IsTale bounds t → t.cut ≡ Some f → IsBegun t f.stream × (0 < length f.payload) × ((xs : List (List ℕ)) × (loads_of f.stream t.late ≡ f.payload ∷ xs))
  pub told : (t : Tale) (k : ℕ) (h : How) → IsTale bounds t → Ended t k h → h ≢ how.Halted → Came t k h ⊎ ((at t.fates k ≡ Some Unmade) × (h ≡ how.Memory))

-- one load more of stream k was received
abbrev pub GainsLoad : Tale → Tale → ℕ → List ℕ → Type 0
GainsLoad t u k x = (j : ℕ) → loads_received j u ≡ loads_received j t ++ loads_in j (load_of k x)

-- no load more was received
abbrev pub KeepsLoads : Tale → Tale → Type 0
KeepsLoads t u = (j : ℕ) → loads_received j u ≡ loads_received j t

-- what a step adds to the loads of each stream; the other steps leave the messages
pub record LoadsAreReceived (bounds : Bounds) : Type 0 where
  pub written : (t : Tale) (k : ℕ) (x : List ℕ) → IsTale bounds t → t.ceased ≡ false → GainsLoad t (written t k x) k x
  pub failed : (t : Tale) (k : ℕ) (x : List ℕ) → IsTale bounds t → t.ceased ≡ false → GainsLoad t (failed t k x) k x
  pub lacked : (t : Tale) (k : ℕ) (x : List ℕ) → IsTale bounds t → t.ceased ≡ false → GainsLoad t (lacked t k x) k x
  pub dropped : (t : Tale) (k : ℕ) (x : List ℕ) → GainsLoad t (dropped t k x) k x
  pub ended : (t : Tale) (k : ℕ) (h : How) → KeepsLoads t (ended t k h)
  pub ended_late : (t : Tale) (k : ℕ) (h : How) → KeepsLoads t (ended_late t k h)

-- what holds within any bounds
abbrev pub WithinAny : (Bounds → Type 0) → Type 0
WithinAny law = (bounds : Bounds) → law bounds

-- what holds for each outer stream and the streams that it gives, whatever they do
abbrev pub ForAll : (Opener → List Stream → Type 0) → Type 0
ForAll law = (o : Opener) (ss : List Stream) → law o ss

-- what holds for streams with an outer one or without
abbrev pub ForAny : (Option Opener → List Stream → Type 0) → Type 0
ForAny law = (o : Option Opener) (ss : List Stream) → law o ss
