-- The events of one stream, and who has the right to finalize a row.
use Rattle.std.specs.Prelude.{ℕ, ◌⊎◌, Bool, true, false, nat_eq, filter, List}
use Rattle.res_ledger.specs.declared.event.What.TheVariants.{Acquire}
use Rattle.res_ledger.specs.Ledger.{Covers, Notes, NotesCancel}
use Rattle.res_ledger.specs.declared.event.Event.{Event}
use Rattle.res_ledger.specs.declared.event.StreamNo.TheVariants.{Inner, Outer}
use Rattle.res_ledger.specs.declared.event.StreamNo.{StreamNo}

abbrev pub same_stream : StreamNo → StreamNo → Bool
same_stream Outer Outer = true
same_stream Outer (Inner j) = false
same_stream (Inner i) Outer = false
same_stream (Inner i) (Inner j) = nat_eq i j

-- the events of one stream
abbrev pub by_stream : StreamNo → List Event → List Event
by_stream k L = filter (λ e. same_stream e.by k) L

-- k acquired the row, or cancelled a lease that covers it
abbrev pub HasRight : List Event → StreamNo → ℕ → Type 0
HasRight L k r = ((s : ℕ) × Notes L k (Acquire r s)) ⊎ ((j : ℕ) × (q : StreamNo) × Covers L j q r × NotesCancel L k j)
