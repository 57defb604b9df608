-- The Close that covers a scope and its rows.
use Rattle.std.specs.Prelude.{◌≡◌, ◌<◌, ℕ, Bool, List, ◌∷◌, ◌++◌, length}
use Rattle.chunk_core.specs.declared.code.Exit.{Exit}
use Rattle.res_ledger.specs.declared.event.StreamNo.{StreamNo}
use Rattle.res_ledger.specs.declared.event.What.TheVariants.{Acquire, Close, Final}
use Rattle.res_ledger.specs.declared.event.Event.{Event}
use Rattle.res_ledger.specs.Ledger.{Notes, NotesClose, LiesWithin, IsClosed, IsLegal}
use Rattle.res_ledger.specs.Whole.{IsComplete}

-- the event behind P is the first Close by k of s or of a scope above s
pub record IsCoveringClose (L : List Event) (k : StreamNo) (s : ℕ) (P : List Event) : Type 0 where
  pub rest : List Event
  pub event : Event
  pub scope : ℕ
  pub exit : Exit
  pub stands : L ≡ P ++ event ∷ rest
  pub by : event.by ≡ k
  pub closes : event.what ≡ Close scope exit
  pub above : LiesWithin L k s scope
  pub first : (a : ℕ) → LiesWithin L k s a → ¬ (NotesClose P k a)

-- in a legal ledger a closed scope has a covering Close
abbrev pub ClosedHasCoveringClose : Type 0
ClosedHasCoveringClose = (L : List Event) → IsLegal L → (k : StreamNo) (s : ℕ) → IsClosed L k s → (P : List Event) × IsCoveringClose L k s P

-- a scope has one covering Close
abbrev pub CoveringCloseIsOne : Type 0
CoveringCloseIsOne = (L : List Event) (k : StreamNo) (s : ℕ) (P C : List Event) → IsCoveringClose L k s P → IsCoveringClose L k s C → P ≡ C

-- in a legal and complete ledger each Final stands behind the Close that covers its row
abbrev pub FinalsFollowCoveringClose : Type 0
FinalsFollowCoveringClose = (L : List Event) → IsLegal L → IsComplete L → (P Q C : List Event) (e : Event) (k : StreamNo) (r s : ℕ) (x : Exit) (ok : Bool) → L ≡ P ++ e ∷ Q → e.what ≡ Final r x ok → Notes L k (Acquire r s) → IsCoveringClose L k s C → length C < length P
