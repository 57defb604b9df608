-- Where an acquired row stands.
use Rattle.std.specs.Prelude.{ℕ, if◌then◌else◌, List}
use Rattle.res_ledger.specs.declared.event.StreamNo.{StreamNo}
use Rattle.res_ledger.specs.declared.event.Event.{Event}
use Rattle.res_ledger.specs.Ledger.{IsAcquired, IsFinalized, IsRowClosed, IsCanceled, Covers, IsLegal}
use Rattle.res_ledger.specs.Whole.{is_final}
use Rattle.res_ledger.specs.Judge.{is_noted, is_row_closed, is_released}

-- the four standings, in their order
pub data Standing : Type 0 where
  Open : Standing
  Awaiting : Standing
  Handed : Standing
  Finalized : Standing

-- finalized where it has its Final; else open where its scope isn't closed; else awaiting where a lease that covers it has no Cancel; else handed
abbrev pub Stands : List Event → ℕ → Standing → Type 0
Stands L r Open = ¬ (IsFinalized L r) × ¬ (IsRowClosed L r)
Stands L r Awaiting = ¬ (IsFinalized L r) × IsRowClosed L r × ((j : ℕ) × (k : StreamNo) × Covers L j k r × ¬ (IsCanceled L j))
Stands L r Handed = ¬ (IsFinalized L r) × IsRowClosed L r × ((j : ℕ) (k : StreamNo) → Covers L j k r → IsCanceled L j)
Stands L r Finalized = IsFinalized L r

-- the row was acquired and stands so
abbrev pub HasStanding : List Event → ℕ → Standing → Type 0
HasStanding L r s = IsAcquired L r × Stands L r s

-- the standing of a row, by tests
abbrev pub standing_of : List Event → ℕ → Standing
standing_of L r = if is_noted (is_final r) L then Finalized else (if is_row_closed L r then (if is_released L L r then Handed else Awaiting) else Open)

-- in a legal ledger each acquired row has the standing that the tests tell
abbrev pub StandingIsExact : Type 0
StandingIsExact = (L : List Event) → IsLegal L → (r : ℕ) → IsAcquired L r → HasStanding L r (standing_of L r)
