-- How many rows are open along swaps.
use Rattle.std.specs.Prelude.{◌≡◌, ◌≤◌, ℕ, Bool, not, List, [], ◌∷◌, ◌++◌, length, map, filter, Option, None, Some}
use Rattle.std.specs.List.{list_any as any}
use Rattle.chunk_core.specs.declared.code.Exit.TheVariants.{Succeeded}
use Rattle.res_ledger.specs.declared.event.What.{What}
use Rattle.res_ledger.specs.declared.event.What.TheVariants.{Open, Acquire, Close, Final}
use Rattle.res_ledger.specs.Own.{rows}
use Rattle.res_ledger.specs.Whole.{is_final}
use Rattle.hot_swap.specs.declared.swap.Held.{Held}

-- swaps noted this, and the last one left this held
pub data NotesSwaps : List What → Option Held → Type 0 where
  none : NotesSwaps [] None
  first : {E : List What} (k : Held) → NotesSwaps E None → NotesSwaps (E ++ Open k.scope 0 ∷ Acquire k.row k.scope ∷ []) (Some k)
  next : {E : List What} {g : Held} (k : Held) (ok : Bool) → NotesSwaps E (Some g) → NotesSwaps (E ++ Open k.scope 0 ∷ Acquire k.row k.scope ∷ Close g.scope Succeeded ∷ Final g.row Succeeded ok ∷ []) (Some k)

-- the row r has a Final
abbrev pub has_final : List What → ℕ → Bool
has_final E r = any (is_final r) E

-- the rows that were acquired and have no Final
abbrev pub rows_open : List What → List ℕ
rows_open E = filter (λ r. not (has_final E r)) (map (λ x. x.0) (rows E))

-- along swaps at most two rows are open at each position
abbrev pub SwapsHoldTwo : Type 0
SwapsHoldTwo = (E : List What) (h : Option Held) (A B : List What) → NotesSwaps E h → E ≡ A ++ B → length (rows_open A) ≤ 2
