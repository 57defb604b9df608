-- In which order a tree notes the ends of its rows.
use Rattle.std.specs.Prelude.{◌≡◌, ℕ, Bool, true, List, [], reverse}
use Rattle.chunk_core.specs.Lists.{IsAmong}
use Rattle.res_ledger.specs.Ledger.{Covers}
use Rattle.res_ledger.specs.Order.{IsInBlocks}
use Rattle.row_seat.specs.declared.view.View.{View}
use Rattle.scope_tree.specs.Trace.{trace}

-- what the seat's stream noted stands in blocks, where Cs are the leases that it cancelled, each with its rows: at a Close the rows that a Lease of its own covers may wait, and a Cancel is followed by rows of its lease, latest acquired first
abbrev pub IsTidy : {P : Type 0} → View P → List (ℕ × List ℕ) → Type 0
IsTidy v Cs = (may : ℕ → Bool) (due : ℕ → List ℕ) → ((j r : ℕ) → Covers v.events j v.by r → may r ≡ true) → ((j : ℕ) (T : List ℕ) → IsAmong (j, T) Cs → due j ≡ reverse T) → IsInBlocks (λ r. may r ≡ true) due [] (trace v)
