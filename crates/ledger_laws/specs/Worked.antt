-- Ledgers of runs that went right.
use Rattle.std.specs.Prelude.{true, false, List, [], ◌∷◌}
use Rattle.chunk_core.specs.declared.code.Exit.TheVariants.{Succeeded, Errored, Canceled}
use Rattle.res_ledger.specs.declared.event.StreamNo.{StreamNo}
use Rattle.res_ledger.specs.declared.event.StreamNo.TheVariants.{Outer, Inner}
use Rattle.res_ledger.specs.declared.event.What.{What}
use Rattle.res_ledger.specs.declared.event.What.TheVariants.{Open, Acquire, Lease, Cancel, Close, Final}
use Rattle.res_ledger.specs.declared.event.Event.{Event}
use Rattle.ledger_laws.specs.Written.{ledger_of}

-- one file is read and closed
abbrev pub one_row : List Event
one_row = ledger_of ((Inner 0, Acquire 0 0) ∷ (Inner 0, Close 0 Succeeded) ∷ (Inner 0, Final 0 Succeeded true) ∷ [])

-- the finalizer of the one file fails
abbrev pub failed_finalizer : List Event
failed_finalizer = ledger_of ((Inner 0, Acquire 0 0) ∷ (Inner 0, Close 0 Succeeded) ∷ (Inner 0, Final 0 Succeeded false) ∷ [])

-- the file can't be opened
abbrev pub nothing_acquired : List Event
nothing_acquired = ledger_of ((Inner 0, Close 0 Errored) ∷ [])

-- a table outlives its closed scope until the stream that reads it cancels its lease
abbrev pub row_kept_by_a_lease : List Event
row_kept_by_a_lease = ledger_of ((Outer, Acquire 0 0) ∷ (Outer, Lease 0 0) ∷ (Outer, Close 0 Succeeded) ∷ (Inner 0, Acquire 1 0) ∷ (Inner 0, Close 0 Succeeded) ∷ (Inner 0, Final 1 Succeeded true) ∷ (Inner 0, Cancel 0 Succeeded) ∷ (Inner 0, Final 0 Succeeded true) ∷ [])

-- the stream that reads a table is stopped: the table's finalizer is told how that stream ended, and not how its own scope did
abbrev pub reader_is_stopped : List Event
reader_is_stopped = ledger_of ((Outer, Acquire 0 0) ∷ (Outer, Lease 0 0) ∷ (Outer, Close 0 Succeeded) ∷ (Inner 0, Acquire 1 0) ∷ (Inner 0, Close 0 Canceled) ∷ (Inner 0, Final 1 Canceled true) ∷ (Inner 0, Cancel 0 Canceled) ∷ (Inner 0, Final 0 Canceled true) ∷ [])

-- two rows are finalized, the latest acquired first
abbrev pub two_rows : List Event
two_rows = ledger_of ((Outer, Acquire 0 0) ∷ (Outer, Acquire 1 0) ∷ (Outer, Close 0 Succeeded) ∷ (Outer, Final 1 Succeeded true) ∷ (Outer, Final 0 Succeeded true) ∷ [])

-- a leased stream has two rows of its own
abbrev pub rows_of_a_leased_stream : List Event
rows_of_a_leased_stream = ledger_of ((Outer, Lease 0 0) ∷ (Outer, Close 0 Succeeded) ∷ (Inner 0, Acquire 0 0) ∷ (Inner 0, Acquire 1 0) ∷ (Inner 0, Close 0 Succeeded) ∷ (Inner 0, Final 1 Succeeded true) ∷ (Inner 0, Final 0 Succeeded true) ∷ (Inner 0, Cancel 0 Succeeded) ∷ [])

-- a child scope is closed before its parent, after a fault that its parent goes on from
abbrev pub child_closed_first : List Event
child_closed_first = ledger_of ((Outer, Lease 0 0) ∷ (Outer, Close 0 Succeeded) ∷ (Inner 0, Open 1 0) ∷ (Inner 0, Acquire 0 1) ∷ (Inner 0, Close 1 Errored) ∷ (Inner 0, Final 0 Errored true) ∷ (Inner 0, Close 0 Succeeded) ∷ (Inner 0, Cancel 0 Succeeded) ∷ [])

-- a stream is never started, and the outer stream cancels its lease
abbrev pub stream_never_started : List Event
stream_never_started = ledger_of ((Outer, Lease 0 0) ∷ (Outer, Lease 1 0) ∷ (Inner 0, Acquire 0 0) ∷ (Inner 0, Close 0 Succeeded) ∷ (Inner 0, Final 0 Succeeded true) ∷ (Inner 0, Cancel 0 Succeeded) ∷ (Outer, Close 0 Succeeded) ∷ (Outer, Cancel 1 Canceled) ∷ [])

-- row 0 in the root, row 1 in its child, row 2 in the child's child, and then these events
abbrev pub nested : List (StreamNo × What) → List Event
nested xs = ledger_of ((Outer, Acquire 0 0) ∷ (Outer, Open 1 0) ∷ (Outer, Acquire 1 1) ∷ (Outer, Open 2 1) ∷ (Outer, Acquire 2 2) ∷ xs)

-- a lease on the child keeps the rows of its parent, of itself and of its child
abbrev pub lease_on_the_middle : List Event
lease_on_the_middle = nested ((Outer, Lease 5 1) ∷ (Outer, Close 0 Succeeded) ∷ (Outer, Cancel 5 Succeeded) ∷ (Outer, Final 2 Succeeded true) ∷ (Outer, Final 1 Succeeded true) ∷ (Outer, Final 0 Succeeded true) ∷ [])

-- a lease on the root doesn't keep the row of the child's child
abbrev pub lease_on_the_root : List Event
lease_on_the_root = nested ((Outer, Lease 5 0) ∷ (Outer, Close 0 Succeeded) ∷ (Outer, Final 2 Succeeded true) ∷ (Outer, Cancel 5 Succeeded) ∷ (Outer, Final 1 Succeeded true) ∷ (Outer, Final 0 Succeeded true) ∷ [])

-- one Close takes three scopes down
abbrev pub three_scopes_at_once : List Event
three_scopes_at_once = nested ((Outer, Close 0 Succeeded) ∷ (Outer, Final 2 Succeeded true) ∷ (Outer, Final 1 Succeeded true) ∷ (Outer, Final 0 Succeeded true) ∷ [])

-- a stream goes on after it has given its lease back
abbrev pub stream_goes_on_after_its_cancel : List Event
stream_goes_on_after_its_cancel = ledger_of ((Outer, Lease 0 0) ∷ (Outer, Close 0 Succeeded) ∷ (Inner 0, Cancel 0 Succeeded) ∷ (Inner 0, Acquire 0 0) ∷ (Inner 0, Close 0 Succeeded) ∷ (Inner 0, Final 0 Succeeded true) ∷ [])
