-- What follows of the rules of a run's ledger, and parts of the rules.
use Rattle.std.specs.Prelude.{◌≡◌, ◌⊎◌, ℕ, ◌<◌, Bool, true, List, [], ◌∷◌, ◌++◌, length, Option, Some, None, IfSome}
use Rattle.chunk_core.specs.Lists.{IsAmong}
use Rattle.chunk_core.specs.declared.code.Exit.{Exit}
use Rattle.chunk_core.specs.declared.code.How.TheVariants as how
use Rattle.res_ledger.specs.Ledger.{Covers, IsLeased, IsLegal, Notes}
use Rattle.res_ledger.specs.declared.event.Event.{Event}
use Rattle.res_ledger.specs.declared.event.StreamNo.{StreamNo}
use Rattle.res_ledger.specs.declared.event.StreamNo.TheVariants.{Inner, Outer}
use Rattle.res_ledger.specs.declared.event.What.TheVariants.{Acquire, Cancel, Final, Lease}
use Rattle.device_port.specs.Device.{DeviceTold}
use Rattle.run_rules.specs.declared.end.EndOf.{EndOf}
use Rattle.run_rules.specs.Ends.{IsLast, IsSilenced, last_stream}
use Rattle.run_rules.specs.Facts.{Acts, HasLeft, IsFailure}
use Rattle.run_rules.specs.Rules.{ClosesBeforeLeaving}
use Rattle.run_rules.specs.Homes.{is_tried}
use Rattle.run_rules.specs.Work.{Opener, RunRecord, Stream, Work, all_parts, opener_places, streams_before, until_by}

-- only the outer stream leases
abbrev pub OnlyOuterLeases : List Event → Type 0
OnlyOuterLeases L = (k : StreamNo) (j s : ℕ) → Notes L k (Lease j s) → k ≡ Outer

-- behind the Cancel of its own lease a stream notes nothing but Finals
abbrev pub LeaversAreSilent : Type 0
LeaversAreSilent =
    (L P Q : List Event) (e f : Event) (j : ℕ) (x : Exit) → IsLegal L → OnlyOuterLeases L → ClosesBeforeLeaving L → L ≡ P ++ e ∷ Q → e.by ≡ Inner j → e.what ≡ Cancel j x → IsAmong f Q → f.by ≡ Inner j
    → (r : ℕ) × (y : Exit) × (ok : Bool) × (f.what ≡ Final r y ok)

-- a work of these streams, which may give anything
abbrev pub work_of : Option Opener → List Stream → Work
work_of o ss = record { opener = o; streams = ss; runs = λ k v w xs e. Unit {0}; ideal_runs = λ k v w xs e. Unit {0}; listing = λ d xs e. Unit {0}; ideal_listing = λ d xs e. Unit {0} }

-- The parts of rules that have a test of their own.

-- no stream begins behind one that failed or found no memory
abbrev pub StopsByFailure : RunRecord → Type 0
StopsByFailure c = (e : EndOf) (j : ℕ) → IsAmong e c.ends → e.who ≡ Inner j → IsFailure e.how ⊎ (e.how ≡ how.Memory) → IsLast j c.events

-- no stream begins behind the one that printed last, where no more is printed
abbrev pub StopsWhenSilenced : Work → RunRecord → Type 0
StopsWhenSilenced work c = IsSilenced work c → IfSome (last_stream c) (λ j. IsLast j c.events)

-- stream k doesn't begin where the stream before it has ended whose end stops it
abbrev pub StopsByEnd : Work → RunRecord → ℕ → Type 0
StopsByEnd work c k = (j : ℕ) → until_by work (Inner k) ≡ Some j → j < k → HasLeft j c.events → ¬ (Acts (Inner k) c.events)

-- the outer stream acquires its rows in their order
abbrev pub TablesRise : List Event → Type 0
TablesRise L = (P Q : List Event) (e : Event) (r s q t : ℕ) → L ≡ P ++ e ∷ Q → e.by ≡ Outer → e.what ≡ Acquire r s → Notes P Outer (Acquire q t) → q < r

-- each lease of the outer stream covers the first n rows
abbrev pub TablesCovered : ℕ → List Event → Type 0
TablesCovered n L = (j s r : ℕ) → Notes L Outer (Lease j s) → r < n → Covers L j Outer r

-- a row of the outer stream is tried only once the streams of the parts before were leased
abbrev pub TakesTurns : Opener → ℕ → List Event → (ℕ → DeviceTold) → Type 0
TakesTurns o n L w = (r j : ℕ) → r < length (opener_places o) → is_tried (w r) ≡ true → j < streams_before 0 0 (all_parts o n) r → IsLeased L j

-- an outer stream without groups and a list
abbrev pub IsPlain : Opener → Type 0
IsPlain o = (o.groups ≡ []) × (o.list ≡ None)
