-- Ledgers that each have one mistake.
use Rattle.std.specs.Prelude.{true, List, [], ◌∷◌}
use Rattle.chunk_core.specs.declared.code.Exit.TheVariants.{Succeeded, Errored, Canceled}
use Rattle.res_ledger.specs.declared.event.StreamNo.TheVariants.{Outer, Inner}
use Rattle.res_ledger.specs.declared.event.What.TheVariants.{Open, Acquire, Lease, Cancel, Close, Final}
use Rattle.res_ledger.specs.declared.event.Event.{Event}
use Rattle.ledger_laws.specs.Written.{ledger_of}
use Rattle.ledger_laws.specs.Worked.{nested}

-- a row is finalized before its scope is closed
abbrev pub final_before_close : List Event
final_before_close = ledger_of ((Inner 0, Acquire 0 0) ∷ (Inner 0, Final 0 Succeeded true) ∷ (Inner 0, Close 0 Succeeded) ∷ [])

-- a row is finalized twice
abbrev pub final_twice : List Event
final_twice = ledger_of ((Inner 0, Acquire 0 0) ∷ (Inner 0, Close 0 Succeeded) ∷ (Inner 0, Final 0 Succeeded true) ∷ (Inner 0, Final 0 Succeeded true) ∷ [])

-- a row is finalized while a lease covers it
abbrev pub final_despite_a_lease : List Event
final_despite_a_lease = nested ((Outer, Lease 5 1) ∷ (Outer, Close 0 Succeeded) ∷ (Outer, Final 2 Succeeded true) ∷ (Outer, Final 1 Succeeded true) ∷ (Outer, Final 0 Succeeded true) ∷ (Outer, Cancel 5 Succeeded) ∷ [])

-- a row is finalized by a stream that neither acquired it nor held a lease on it
abbrev pub final_by_a_stranger : List Event
final_by_a_stranger = ledger_of ((Inner 0, Acquire 0 0) ∷ (Inner 0, Close 0 Succeeded) ∷ (Inner 1, Final 0 Succeeded true) ∷ [])

-- a stream gives its lease back while a row of its own isn't final
abbrev pub cancel_before_the_finals : List Event
cancel_before_the_finals = ledger_of ((Outer, Lease 0 0) ∷ (Outer, Close 0 Succeeded) ∷ (Inner 0, Acquire 0 0) ∷ (Inner 0, Close 0 Succeeded) ∷ (Inner 0, Cancel 0 Succeeded) ∷ (Inner 0, Final 0 Succeeded true) ∷ [])

-- the outer stream cancels the lease of a stream that has begun
abbrev pub cancel_of_a_begun_stream : List Event
cancel_of_a_begun_stream = ledger_of ((Outer, Lease 0 0) ∷ (Inner 0, Close 0 Succeeded) ∷ (Outer, Cancel 0 Succeeded) ∷ (Outer, Close 0 Succeeded) ∷ [])

-- a lease is canceled twice
abbrev pub cancel_twice : List Event
cancel_twice = ledger_of ((Outer, Lease 0 0) ∷ (Outer, Cancel 0 Succeeded) ∷ (Outer, Cancel 0 Succeeded) ∷ (Outer, Close 0 Succeeded) ∷ [])

-- a stream is leased to twice
abbrev pub lease_twice : List Event
lease_twice = ledger_of ((Outer, Lease 0 0) ∷ (Outer, Lease 0 0) ∷ (Outer, Close 0 Succeeded) ∷ (Outer, Cancel 0 Succeeded) ∷ [])

-- a row is acquired in a closed scope
abbrev pub acquire_in_a_closed_scope : List Event
acquire_in_a_closed_scope = ledger_of ((Inner 0, Close 0 Succeeded) ∷ (Inner 0, Acquire 0 0) ∷ (Inner 0, Final 0 Succeeded true) ∷ [])

-- a row is acquired in a scope below a closed one
abbrev pub acquire_below_a_closed_scope : List Event
acquire_below_a_closed_scope = ledger_of ((Inner 0, Open 1 0) ∷ (Inner 0, Close 0 Succeeded) ∷ (Inner 0, Acquire 0 1) ∷ (Inner 0, Final 0 Succeeded true) ∷ [])

-- a row is acquired twice
abbrev pub acquire_twice : List Event
acquire_twice = ledger_of ((Inner 0, Acquire 0 0) ∷ (Inner 1, Acquire 0 0) ∷ (Inner 0, Close 0 Succeeded) ∷ (Inner 0, Final 0 Succeeded true) ∷ (Inner 1, Close 0 Succeeded) ∷ [])

-- a scope is closed twice
abbrev pub close_twice : List Event
close_twice = ledger_of ((Inner 0, Close 0 Succeeded) ∷ (Inner 0, Close 0 Succeeded) ∷ [])

-- a scope that nobody opened is closed
abbrev pub close_of_no_scope : List Event
close_of_no_scope = ledger_of ((Inner 0, Close 1 Succeeded) ∷ (Inner 0, Close 0 Succeeded) ∷ [])

-- a row has no Final
abbrev pub row_without_a_final : List Event
row_without_a_final = ledger_of ((Outer, Acquire 0 0) ∷ (Outer, Acquire 1 0) ∷ (Outer, Close 0 Succeeded) ∷ (Outer, Final 1 Succeeded true) ∷ [])

-- a lease has no Cancel
abbrev pub lease_without_a_cancel : List Event
lease_without_a_cancel = ledger_of ((Outer, Lease 0 0) ∷ (Outer, Close 0 Succeeded) ∷ [])

-- a scope is left open
abbrev pub scope_left_open : List Event
scope_left_open = ledger_of ((Inner 0, Open 1 0) ∷ [])

-- the root of a stream with a row is left open
abbrev pub root_left_open : List Event
root_left_open = ledger_of ((Inner 0, Open 1 0) ∷ (Inner 0, Acquire 0 1) ∷ (Inner 0, Close 1 Succeeded) ∷ (Inner 0, Final 0 Succeeded true) ∷ [])

-- two rows of a scope are finalized in the order of their acquisition
abbrev pub siblings_in_order_of_acquisition : List Event
siblings_in_order_of_acquisition = ledger_of ((Outer, Acquire 0 0) ∷ (Outer, Acquire 1 0) ∷ (Outer, Close 0 Succeeded) ∷ (Outer, Final 0 Succeeded true) ∷ (Outer, Final 1 Succeeded true) ∷ [])

-- the rows of a parent are finalized before those of its child
abbrev pub parent_before_child : List Event
parent_before_child = nested ((Outer, Close 0 Succeeded) ∷ (Outer, Final 0 Succeeded true) ∷ (Outer, Final 1 Succeeded true) ∷ (Outer, Final 2 Succeeded true) ∷ [])

-- a row that no lease covers waits for the Cancel of a lease on others
abbrev pub uncovered_row_waits : List Event
uncovered_row_waits = nested ((Outer, Lease 5 0) ∷ (Outer, Close 0 Succeeded) ∷ (Outer, Cancel 5 Succeeded) ∷ (Outer, Final 2 Succeeded true) ∷ (Outer, Final 1 Succeeded true) ∷ (Outer, Final 0 Succeeded true) ∷ [])

-- the rows of a lease are finalized in the order of their acquisition
abbrev pub leased_rows_in_order_of_acquisition : List Event
leased_rows_in_order_of_acquisition = nested ((Outer, Lease 5 1) ∷ (Outer, Close 0 Succeeded) ∷ (Outer, Cancel 5 Succeeded) ∷ (Outer, Final 0 Succeeded true) ∷ (Outer, Final 1 Succeeded true) ∷ (Outer, Final 2 Succeeded true) ∷ [])

-- another event stands between a Close and the Finals of its rows
abbrev pub event_between_close_and_finals : List Event
event_between_close_and_finals = ledger_of ((Inner 0, Open 1 0) ∷ (Inner 0, Acquire 0 1) ∷ (Inner 0, Close 1 Succeeded) ∷ (Inner 0, Acquire 1 0) ∷ (Inner 0, Final 0 Succeeded true) ∷ (Inner 0, Close 0 Succeeded) ∷ (Inner 0, Final 1 Succeeded true) ∷ [])

-- a finalizer is told that all went well, where its scope ended in a fault
abbrev pub final_with_another_exit_than_its_close : List Event
final_with_another_exit_than_its_close = ledger_of ((Inner 0, Acquire 0 0) ∷ (Inner 0, Close 0 Errored) ∷ (Inner 0, Final 0 Succeeded true) ∷ [])

-- a finalizer is told how its scope ended, where the stream that it waited for ended otherwise
abbrev pub final_with_another_exit_than_its_cancel : List Event
final_with_another_exit_than_its_cancel = ledger_of ((Outer, Acquire 0 0) ∷ (Outer, Lease 0 0) ∷ (Outer, Close 0 Succeeded) ∷ (Inner 0, Close 0 Errored) ∷ (Inner 0, Cancel 0 Errored) ∷ (Inner 0, Final 0 Succeeded true) ∷ [])

-- of two finalizers one is told another exit
abbrev pub finals_with_two_exits : List Event
finals_with_two_exits = ledger_of ((Outer, Acquire 0 0) ∷ (Outer, Acquire 1 0) ∷ (Outer, Close 0 Canceled) ∷ (Outer, Final 1 Canceled true) ∷ (Outer, Final 0 Errored true) ∷ [])
