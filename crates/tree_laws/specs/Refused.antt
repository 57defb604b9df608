-- Ledgers that no tree which is done leaves.
use Rattle.std.specs.Prelude.{true, List, [], ◌∷◌}
use Rattle.chunk_core.specs.declared.code.Exit.TheVariants.{Succeeded}
use Rattle.res_ledger.specs.declared.event.StreamNo.{StreamNo}
use Rattle.res_ledger.specs.declared.event.StreamNo.TheVariants.{Outer, Inner}
use Rattle.res_ledger.specs.declared.event.What.TheVariants.{Acquire, Close, Final, Lease}
use Rattle.res_ledger.specs.declared.event.Event.{Event}
use Rattle.res_ledger.specs.Ledger.{IsLegal, stamped}
use Rattle.tree_laws.specs.Whole.{IsWholeFor}

-- the row acquired first ends first
abbrev pub first_row_first : List Event
first_row_first = stamped 0 ((Outer, Acquire 0 0) ∷ (Outer, Acquire 1 0) ∷ (Outer, Close 0 Succeeded) ∷ (Outer, Final 0 Succeeded true) ∷ (Outer, Final 1 Succeeded true) ∷ [])

-- a row has no Final
abbrev pub row_left_over : List Event
row_left_over = stamped 0 ((Outer, Acquire 0 0) ∷ (Outer, Acquire 1 0) ∷ (Outer, Close 0 Succeeded) ∷ (Outer, Final 1 Succeeded true) ∷ [])

-- the outer stream's Lease has no Cancel, though the leased stream is done
abbrev pub lease_left_over : List Event
lease_left_over = stamped 0 ((Outer, Lease 0 0) ∷ (Outer, Close 0 Succeeded) ∷ (Inner 0, Acquire 0 0) ∷ (Inner 0, Close 0 Succeeded) ∷ (Inner 0, Final 0 Succeeded true) ∷ [])

-- the ledger is legal, and yet not whole for k
abbrev pub IsLegalButNotWhole : List Event → StreamNo → Type 0
IsLegalButNotWhole L k = IsLegal L × ¬ (IsWholeFor L k)
