-- How a row stands for a tree.
use Rattle.std.specs.Prelude.{ℕ, if◌then◌else◌, nat_eq, List, [], ◌∷◌, Option, Some, None}
use Rattle.chunk_core.specs.Lists.{IsAmong}
use Rattle.res_ledger.specs.Order.{firsts}
use Rattle.row_seat.specs.Views.{HasRow}
use Rattle.scope_tree.specs.declared.branch.Standing.{Standing}
use Rattle.scope_tree.specs.declared.branch.Standing.TheVariants.{Empty, Open, Left, Final}
use Rattle.scope_tree.specs.Calls.{Seen}
use Rattle.scope_tree.specs.Released.{MayWait, said}
use Rattle.scope_tree.specs.Trace.{own_rows}

-- what stands with r first in the list
abbrev pub found : {A : Type 0} → ℕ → List (ℕ × A) → Option A
found r [] = None
found r (x ∷ xs) = if nat_eq x.0 r then Some x.1 else found r xs

module _ {P : Type 0} where
  -- how the row r stands: by the rows that were acquired, the open rows and the shelf; what is left is one that the main seat leased
  abbrev pub StandsAs : Seen P → ℕ → Standing → Type 0
  StandsAs a r Empty = ¬ (IsAmong r (own_rows a.seat)) × ¬ (HasRow a.seat.opened r) × ¬ (IsAmong r (firsts (said a.shelf)))
  StandsAs a r Open = IsAmong r (own_rows a.seat) × HasRow a.seat.opened r × ¬ (IsAmong r (firsts (said a.shelf)))
  StandsAs a r Left = IsAmong r (own_rows a.seat) × ¬ (HasRow a.seat.opened r) × ¬ (IsAmong r (firsts (said a.shelf))) × MayWait a.seat r
  StandsAs a r (Final ok) = ¬ (HasRow a.seat.opened r) × IsAmong (r, ok) (said a.shelf)
