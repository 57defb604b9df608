-- Where a row stands, by its word and by the ledger.
use Rattle.std.specs.Prelude.{◌≡◌, ℕ, ◌+◌, ◌*◌, ◌<◌, ◌≤◌, ◌⊎◌, List, Option}
use Rattle.res_ledger.specs.declared.event.Event.{Event}
use Rattle.res_ledger.specs.Ledger.{IsFinalized, IsRowClosed}
use Rattle.res_ledger.specs.Standing.{HasStanding}
use Rattle.res_ledger.specs.Standing.Standing.{Open, Awaiting, Handed, Finalized}
use Rattle.row_seat.specs.declared.token.Token.{Token}
use Rattle.row_seat.specs.Rule.{RuleHolds}

-- what the word w of the row r tells of the ledger L
pub record WordTells (L : List Event) (r w : ℕ) : Type 0 where
  -- 0: the row isn't placed
  pub unplaced : w ≡ 0 → ¬ (IsFinalized L r)
  -- 1 + 4n: it is open, or its Close is noted and the step on the row is still to come
  pub opened : (n : ℕ) → w ≡ 1 + 4 * n → HasStanding L r Open ⊎ (IsRowClosed L r × ¬ (IsFinalized L r))
  -- 3 + 4n: it awaits a lease, or the last Cancels are noted and their steps are still to come
  pub awaiting : (n : ℕ) → w ≡ 3 + 4 * n → 1 ≤ n → HasStanding L r Awaiting ⊎ HasStanding L r Handed
  -- 3: it is handed or finalized
  pub closed : w ≡ 3 → HasStanding L r Handed ⊎ HasStanding L r Finalized
  pub words : (w ≡ 0) ⊎ (((n : ℕ) × (w ≡ 1 + 4 * n)) ⊎ ((n : ℕ) × (w ≡ 3 + 4 * n)))

-- wherever the rule holds, the ledger of all seats stands at each row where its word does, or ahead of it
abbrev pub LedgerIsNeverBehind : Type 0 → Type 0
LedgerIsNeverBehind P = (rows room : ℕ) (word : ℕ → ℕ) (slot : ℕ → Option P) (log : List Event) (views : List (Token P)) → RuleHolds rows room word slot log views → (r : ℕ) → r < rows → WordTells log r (word r)
