-- A ledger is a list of events. Each definition speaks of positions in that list.
use Rattle.std.specs.Prelude.{◌≡◌, ◌≢◌, ℕ, suc, ◌⊎◌, Bool, List, [], ◌∷◌, ◌++◌, length}
use Rattle.chunk_core.specs.Lists.{IsAmong}
use Rattle.chunk_core.specs.declared.code.Exit.{Exit}
use Rattle.res_ledger.specs.declared.event.StreamNo.{StreamNo}
use Rattle.res_ledger.specs.declared.event.StreamNo.TheVariants.{Inner}
use Rattle.res_ledger.specs.declared.event.What.{What}
use Rattle.res_ledger.specs.declared.event.What.TheVariants.{Open, Acquire, Lease, Cancel, Close, Final}
use Rattle.res_ledger.specs.declared.event.Event.{Event}

-- the ledger has an event by k that says w
abbrev pub Notes : List Event → StreamNo → What → Type 0
Notes L k w = (e : Event) × IsAmong e L × (e.by ≡ k) × (e.what ≡ w)

-- k noted a Close of the scope s, whichever way it ended
abbrev pub NotesClose : List Event → StreamNo → ℕ → Type 0
NotesClose L k s = (x : Exit) × Notes L k (Close s x)

-- k noted a Cancel of the lease for j, whichever way it ended
abbrev pub NotesCancel : List Event → StreamNo → ℕ → Type 0
NotesCancel L k j = (x : Exit) × Notes L k (Cancel j x)

-- k noted a Final of the row r, whichever way its scope or stream ended
abbrev pub NotesFinal : List Event → StreamNo → ℕ → Bool → Type 0
NotesFinal L k r ok = (x : Exit) × Notes L k (Final r x ok)

-- the scope s is a or lies below a, by what k opened
pub data LiesWithin (L : List Event) (k : StreamNo) : ℕ → ℕ → Type 0 where
  same : (s : ℕ) → LiesWithin L k s s
  below : (s p a : ℕ) → Notes L k (Open s p) → LiesWithin L k p a → LiesWithin L k s a

-- k closed s or a scope above it
abbrev pub IsClosed : List Event → StreamNo → ℕ → Type 0
IsClosed L k s = (a : ℕ) × LiesWithin L k s a × NotesClose L k a

-- k opened the scope s
abbrev pub IsOpened : List Event → StreamNo → ℕ → Type 0
IsOpened L k s = (p : ℕ) × Notes L k (Open s p)

-- s is the root or was opened by k, and isn't closed
abbrev pub IsUsable : List Event → StreamNo → ℕ → Type 0
IsUsable L k s = ((s ≡ 0) ⊎ IsOpened L k s) × ¬ (IsClosed L k s)

-- the row r was acquired
abbrev pub IsAcquired : List Event → ℕ → Type 0
IsAcquired L r = (k : StreamNo) × (s : ℕ) × Notes L k (Acquire r s)

-- the row r has a Final
abbrev pub IsFinalized : List Event → ℕ → Type 0
IsFinalized L r = (k : StreamNo) × (ok : Bool) × NotesFinal L k r ok

-- there is a lease for the stream j
abbrev pub IsLeased : List Event → ℕ → Type 0
IsLeased L j = (k : StreamNo) × (s : ℕ) × Notes L k (Lease j s)

-- the lease for the stream j has a Cancel
abbrev pub IsCanceled : List Event → ℕ → Type 0
IsCanceled L j = (k : StreamNo) × NotesCancel L k j

-- a lease by k on the scope s, made after P, covers the row r: k acquired it in s, a direct child of s or a scope above s that wasn't closed
abbrev pub IsCoveredBy : List Event → StreamNo → ℕ → ℕ → Type 0
IsCoveredBy P k s r = (t : ℕ) × Notes P k (Acquire r t) × (Notes P k (Open t s) ⊎ LiesWithin P k s t) × ¬ (IsClosed P k t)

-- the Lease for j, noted by k, covers the row r
abbrev pub Covers : List Event → ℕ → StreamNo → ℕ → Type 0
Covers L j k r = (P Q : List Event) × (e : Event) × (s : ℕ) × (L ≡ P ++ e ∷ Q) × (e.by ≡ k) × (e.what ≡ Lease j s) × IsCoveredBy P k s r

-- the scope in which r was acquired is closed
abbrev pub IsRowClosed : List Event → ℕ → Type 0
IsRowClosed L r = (k : StreamNo) × (s : ℕ) × Notes L k (Acquire r s) × IsClosed L k s

-- closed, with each lease that covers it cancelled, and not finalized
abbrev pub IsHanded : List Event → ℕ → Type 0
IsHanded L r = IsRowClosed L r × ((j : ℕ) (k : StreamNo) → Covers L j k r → IsCanceled L j) × ¬ (IsFinalized L r)

-- what an event has to meet on the events before it
abbrev pub MayFollow : List Event → StreamNo → What → Type 0
MayFollow P k (Open s p) = (s ≢ 0) × ¬ (IsOpened P k s) × IsUsable P k p
MayFollow P k (Acquire r s) = ¬ (IsAcquired P r) × IsUsable P k s
MayFollow P k (Lease j s) = ¬ (IsLeased P j) × (k ≢ Inner j) × IsUsable P k s
MayFollow P k (Cancel j x) = IsLeased P j × ¬ (IsCanceled P j) × (((k ≡ Inner j) × ((r s : ℕ) → Notes P k (Acquire r s) → IsFinalized P r)) ⊎ (((s : ℕ) × Notes P k (Lease j s)) × ((e : Event) → IsAmong e P → e.by ≢ Inner j)))
MayFollow P k (Close s x) = IsUsable P k s
MayFollow P k (Final r x ok) = IsHanded P r × (((s : ℕ) × Notes P k (Acquire r s)) ⊎ ((j : ℕ) × (q : StreamNo) × Covers P j q r × NotesCancel P k j))

-- each event meets its condition on the events before it
abbrev pub IsLegal : List Event → Type 0
IsLegal L = (P Q : List Event) (e : Event) → L ≡ P ++ e ∷ Q → MayFollow P e.by e.what

-- the event at position i has the stamp i
abbrev pub IsStamped : List Event → Type 0
IsStamped L = (P Q : List Event) (e : Event) → L ≡ P ++ e ∷ Q → e.stamp ≡ length P

-- these events, each with the stream that notes it, with stamps from n on
abbrev pub stamped : ℕ → List (StreamNo × What) → List Event
stamped n [] = []
stamped n (x ∷ xs) = record { stamp = n; by = x.0; what = x.1 } ∷ stamped (suc n) xs
