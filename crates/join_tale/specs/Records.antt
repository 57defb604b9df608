-- What a run did, against its tale.
use Rattle.std.specs.Prelude.{◌≡◌, ◌⊎◌, ℕ, suc, ◌<◌, ◌≤◌, true, false, not, List, map, length, Option, Some, None, is_some, IfSome}
use Rattle.std.specs.List.{list_any as any, list_all as all, AllByRecursion}
use Rattle.chunk_core.specs.Lists.{IsAmong}
use Rattle.chunk_core.specs.declared.code.How.{How}
use Rattle.chunk_core.specs.declared.code.How.TheVariants as how
use Rattle.interrupt_ctx.specs.Views.{interruption}
use Rattle.interrupt_ctx.specs.declared.why.Stop.{Stop}
use Rattle.interrupt_ctx.specs.declared.why.Why.TheVariants as why
use Rattle.res_ledger.specs.Ledger.{IsStamped}
use Rattle.res_ledger.specs.declared.event.Event.{Event}
use Rattle.res_ledger.specs.declared.event.StreamNo.{StreamNo}
use Rattle.res_ledger.specs.declared.event.StreamNo.TheVariants.{Outer, Inner}
use Rattle.run_rules.specs.declared.end.EndOf.{EndOf}
use Rattle.run_rules.specs.Ends as ends
use Rattle.run_rules.specs.Ends.{BeginInRoom, HasCauseToHalt, IsSilenced, IsStopped, WasIn}
use Rattle.run_rules.specs.Facts.{has_left, is_fault}
use Rattle.run_rules.specs.Outputs.{NeverFall}
use Rattle.run_rules.specs.Work.{Work, Opener, RunRecord, Stream, begun_frames, most_of, names_of, runs_in_turn, until_by}
use Rattle.stop_places.specs.Places.{ClosedWithin, ClosesBehind}
use Rattle.join_tale.specs.Bounds.{bounds_of}
use Rattle.join_tale.specs.Ended.{Ended}
use Rattle.join_tale.specs.Keeping.{HadTurn, LacksForLoad}
use Rattle.join_tale.specs.Tales.{FailedSo, HasCome, IsBegun, Tale, frames_of}

-- a run of which it isn't said what its streams give: why a stream may be halted and what may begin don't depend on that
abbrev pub bare : Option Opener → List Stream → Work
bare o ss = record { opener = o; streams = ss; runs = λ k v w ys e. ⊥; ideal_runs = λ k v w ys e. ⊥; listing = λ d ys e. ⊥; ideal_listing = λ d ys e. ⊥ }

-- what was found set in a context has been set there, as is known once all seats are in
abbrev pub IsSettled : Tale → Type 0
IsSettled t = (context : ℕ) (w : Stop) → IsAmong (interruption context w) t.seen → IsAmong (interruption context w) t.set

-- the stream ended so
abbrev pub EndedSo : Tale → StreamNo → How → Type 0
EndedSo t Outer h = t.outer ≡ Some h
EndedSo t (Inner k) h = Ended t k h

-- the record tells what the tale does: its ends, the frames, and of its events that only streams that were begun noted some, those left whose end was received, and each had its turn while those alone
-- hadn't left that are told to have been open; a stream that obeyed what it found closed its root behind the front of the ledger that this names, and within that front the stream had closed its
-- own whose fault or whose end it tells of
pub record IsRecordOf (work : Work) (t : Tale) (c : RunRecord) : Type 0 where
  pub frames : c.frames ≡ frames_of t.front
  pub cut : c.cut ≡ t.cut
  pub memory : c.memory ≡ t.memory
  pub opener : is_some work.opener ≡ true
  pub named : map (λ e. e.who) c.ends ≡ names_of work
  pub told : (e : EndOf) → IsAmong e c.ends → EndedSo t e.who e.how
  pub count : length t.fates ≤ length work.streams
  pub begun : (e : Event) (k : ℕ) → IsAmong e c.events → e.by ≡ Inner k → IsBegun t k
  pub left : (j : ℕ) → has_left j c.events ≡ true → HasCome t j
  pub leaves : (j : ℕ) → HasCome t j → has_left j c.events ≡ true
  pub turns : (k : ℕ) → ends.HadTurn c.events k → HadTurn t k
  pub room : (k i : ℕ) → i < k → WasIn c.events k i → IsAmong i (t.room k)
  pub stamped : IsStamped c.events
  pub behind : (k : StreamNo) (w : Stop) → IsAmong (k, w) t.obeyed → ClosesBehind c.events k w.at
  pub failed : (context : ℕ) (w : Stop) → IsAmong (interruption context w) t.set → w.why ≡ why.Fault → (k : StreamNo) × FailedSo t k × ClosedWithin c.events k w.at
  pub ended : (context : ℕ) (w : Stop) → IsAmong (interruption context w) t.set → w.why ≡ why.Until → (i j : ℕ) × (context ≡ suc i) × (until_by work (Inner i) ≡ Some j) × ClosedWithin c.events (Inner j) w.at

-- what follows of the record
pub record Follows (work : Work) (c : RunRecord) : Type 0 where
  pub halted : (e : EndOf) → IsAmong e c.ends → e.how ≡ how.Halted → HasCauseToHalt work c e.who
  pub stopped : IsStopped work c
  pub memory : (e : EndOf) → IsAmong e c.ends → e.how ≡ how.Memory → c.memory ≡ true
  pub begins : BeginInRoom work.opener work c
  pub in_turn : runs_in_turn work ≡ true → NeverFall (begun_frames c)
  pub numbers : AllByRecursion (λ f. (f.stream < length work.streams) × (0 < length f.payload)) c.frames
  pub few : IfSome (most_of work) (λ n. length (begun_frames c) ≤ n)

-- memory was wanting for an end that says so, or for a load of stream k, which was halted though frames could be printed
abbrev pub WantsFor : Opener → List Stream → Tale → RunRecord → Type 0
WantsFor o ss t c =
    (e : EndOf) × IsAmong e c.ends
    × ((e.how ≡ how.Memory) ⊎ ((e.how ≡ how.Halted) × ¬ (IsSilenced (bare (Some o) ss) c) × ((k : ℕ) × (e.who ≡ Inner k) × LacksForLoad (bounds_of o ss) t k)))

-- nothing that stops a stream came about: all was written, memory was never wanting, fewer frames were printed than may be, no stream ends with another, and none failed
pub record IsUndisturbed (work : Work) (c : RunRecord) : Type 0 where
  pub written : c.cut ≡ None
  pub memory : c.memory ≡ false
  pub most : IfSome (most_of work) (λ n. length c.frames < n)
  pub until : all (λ s. not (is_some s.until)) work.streams ≡ true
  pub faultless : any (λ e. is_fault e.how) c.ends ≡ false
