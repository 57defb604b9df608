-- Runs with one thing wrong each.
use Rattle.std.specs.Prelude.{ℕ, true, false, List, [], ◌∷◌, ◌++◌, drop, None, Some, codes}
use Rattle.chunk_core.specs.declared.code.Code.TheVariants as code
use Rattle.chunk_core.specs.declared.code.Exit.TheVariants.{Succeeded, Errored, Canceled}
use Rattle.chunk_core.specs.declared.code.How.TheVariants as how
use Rattle.res_ledger.specs.declared.event.StreamNo.{StreamNo}
use Rattle.res_ledger.specs.declared.event.StreamNo.TheVariants.{Outer, Inner}
use Rattle.res_ledger.specs.declared.event.What.{What}
use Rattle.res_ledger.specs.declared.event.What.TheVariants.{Open, Acquire, Lease, Cancel, Close, Final}
use Rattle.res_ledger.specs.Ledger.{stamped}
use Rattle.device_port.specs.Device.{to_read, to_write}
use Rattle.run_rules.specs.Work.{RunRecord, Work}
use Rattle.run_laws.specs.Files.{path_a}
use Rattle.run_laws.specs.FiveFiles.{five, visit}
use Rattle.run_laws.specs.OneStream.{unbegun, ungiven, x_listing}
use Rattle.run_laws.specs.Others.{copied, hello, silent, stopped, table_files, two_listing, two_tables, u_csv, x_device}
use Rattle.run_laws.specs.Sides.{paired, path_p, path_q, three_lines, two_lines}
use Rattle.run_laws.specs.Streams.{opener, two_files}
use Rattle.run_laws.specs.Tables.{a_csv, keys_bytes, lookup, path_b, t_csv, table_bytes, unread_file, unread_table_device}
use Rattle.run_laws.specs.Written.{ends_of, files_of, frame, idle_device, read_device, run_of, used_device}

-- the run with another ledger
abbrev pub with_events : RunRecord → List (StreamNo × What) → RunRecord
with_events c events = record c { events = stamped 0 events }

-- How far the outer stream is ahead, and how many are open.

-- stream 0 begins before stream 1 is leased for
abbrev pub without_lease : RunRecord
without_lease = with_events stopped ((Outer, Lease 0 0) ∷ (Inner 0, Acquire 0 0) ∷ (Inner 0, Close 0 Succeeded) ∷ (Inner 0, Final 0 Succeeded true) ∷ (Inner 0, Cancel 0 Succeeded) ∷ (Outer, Lease 1 0) ∷ (Outer, Close 0 Succeeded) ∷ (Outer, Cancel 1 Canceled) ∷ [])

-- both streams are open, where one may be
abbrev pub in_turn_work : Work
in_turn_work = two_files (opener [] 1 None) None

abbrev pub two_open : RunRecord
two_open = with_events stopped ((Outer, Lease 0 0) ∷ (Outer, Lease 1 0) ∷ (Outer, Close 0 Succeeded) ∷ (Inner 0, Acquire 0 0) ∷ (Inner 1, Close 0 Canceled) ∷ (Inner 1, Cancel 1 Canceled) ∷ (Inner 0, Close 0 Succeeded) ∷ (Inner 0, Final 0 Succeeded true) ∷ (Inner 0, Cancel 0 Succeeded) ∷ [])

-- Rows.

-- the table that was acquired first ends first
abbrev pub first_table_first : RunRecord
first_table_first = with_events two_tables ((Outer, Acquire 0 0) ∷ (Outer, Acquire 1 0) ∷ (Outer, Close 0 Succeeded) ∷ (Outer, Final 0 Succeeded true) ∷ (Outer, Final 1 Succeeded true) ∷ [])

-- the table ends while its lease stands
abbrev pub leased_table_ended : RunRecord
leased_table_ended = with_events lookup ((Outer, Acquire 0 0) ∷ (Outer, Lease 0 0) ∷ (Outer, Close 0 Succeeded) ∷ (Outer, Final 0 Succeeded true) ∷ (Inner 0, Acquire 1 0) ∷ (Inner 0, Close 0 Succeeded) ∷ (Inner 0, Final 1 Succeeded true) ∷ (Inner 0, Cancel 0 Succeeded) ∷ [])

-- stream 0 acquires the row of stream 1
abbrev pub stolen_row : RunRecord
stolen_row = with_events stopped ((Outer, Lease 0 0) ∷ (Outer, Lease 1 0) ∷ (Inner 0, Acquire 0 0) ∷ (Inner 0, Acquire 1 0) ∷ (Inner 0, Close 0 Succeeded) ∷ (Inner 0, Final 1 Succeeded true) ∷ (Inner 0, Final 0 Succeeded true) ∷ (Inner 0, Cancel 0 Succeeded) ∷ (Outer, Close 0 Succeeded) ∷ (Outer, Cancel 1 Canceled) ∷ [])

-- a scope that no step has
abbrev pub invented_scope : RunRecord
invented_scope = with_events copied ((Outer, Lease 0 0) ∷ (Outer, Close 0 Succeeded) ∷ (Inner 0, Open 3 0) ∷ (Inner 0, Acquire 0 0) ∷ (Inner 0, Acquire 1 3) ∷ (Inner 0, Close 0 Succeeded) ∷ (Inner 0, Final 1 Succeeded true) ∷ (Inner 0, Final 0 Succeeded true) ∷ (Inner 0, Cancel 0 Succeeded) ∷ [])

-- an inner stream leases for another
abbrev pub lease_by_a_stream : RunRecord
lease_by_a_stream = with_events stopped ((Outer, Lease 0 0) ∷ (Inner 0, Lease 1 0) ∷ (Inner 0, Acquire 0 0) ∷ (Inner 0, Close 0 Succeeded) ∷ (Inner 0, Final 0 Succeeded true) ∷ (Inner 0, Cancel 1 Canceled) ∷ (Inner 0, Cancel 0 Succeeded) ∷ (Outer, Close 0 Succeeded) ∷ [])

-- stream 0 cancels its lease and goes on
abbrev pub left_before_closing : RunRecord
left_before_closing = with_events copied ((Outer, Lease 0 0) ∷ (Outer, Close 0 Succeeded) ∷ (Inner 0, Cancel 0 Succeeded) ∷ (Inner 0, Close 0 Succeeded) ∷ [])

-- Devices.

-- a second device for the file, which nobody opened
abbrev pub second_device : RunRecord
second_device = record copied { depot_new = record copied.depot_new { made = to_write path_b ∷ to_read path_a ∷ to_read path_a ∷ []; retired = copied.depot_new.retired ++ idle_device 2 (to_read path_a) hello ∷ [] } }

-- the file that was written to holds something else
abbrev pub other_bytes_stored : RunRecord
other_bytes_stored = record copied { depot_new = record copied.depot_new { files = Some (files_of ((path_a, hello) ∷ (path_b, codes "hell") ∷ [])) } }

-- Outputs.

-- the value is another than the table's
abbrev pub another_value : RunRecord
another_value = record lookup { frames = frame 0 (codes "k,w\nz,\n") ∷ [] }

-- more frames than may be printed
abbrev pub one_frame_too_many : RunRecord
one_frame_too_many = record silent { frames = frame 0 (codes "x\n") ∷ [] }

-- as many frames as may be printed, and a write behind them that failed
abbrev pub one_frame_work : Work
one_frame_work = two_files (opener [] 1 (Some 1)) None

abbrev pub cut_behind_the_last : RunRecord
cut_behind_the_last = record stopped { cut = Some (frame 0 (codes "y\n")) }

-- Ends.

-- a stream is halted by one that is started after it has ended
abbrev pub halted_by_a_later_one : RunRecord
halted_by_a_later_one = record stopped { ends = ends_of how.Done (how.Halted ∷ how.Fault code.Open ∷ []) }

-- a stream is halted, and nothing stopped it
abbrev pub stopped_by_nothing : RunRecord
stopped_by_nothing = record copied { ends = ends_of how.Done (how.Halted ∷ []) }

-- a read that failed, and no device counted it
abbrev pub fault_of_no_device : RunRecord
fault_of_no_device = record unread_file { depot_new = record unread_file.depot_new { retired = read_device 0 t_csv table_bytes Errored ∷ used_device 1 (to_read a_csv) keys_bytes Errored ∷ [] } }

-- the outer stream never closed its root
abbrev pub root_never_closed : RunRecord
root_never_closed = with_events silent []

-- the outer stream is done, and no table was acquired
abbrev pub tables_never_acquired : RunRecord
tables_never_acquired = with_events two_tables ((Outer, Close 0 Succeeded) ∷ [])

-- the outer stream is done, and gave nobody
abbrev pub nobody_given : RunRecord
nobody_given = run_of two_listing two_listing [] (ends_of how.Done (how.Memory ∷ how.Memory ∷ [])) ((Outer, Close 0 Succeeded) ∷ []) []

-- the table behind one that failed is tried
abbrev pub next_table_tried : RunRecord
next_table_tried = run_of table_files table_files (record unread_table_device { number = 0 } ∷ read_device 1 u_csv (codes "k,w\n") Errored ∷ []) (ends_of (how.Fault code.Read) [])
    ((Outer, Acquire 0 0) ∷ (Outer, Acquire 1 0) ∷ (Outer, Close 0 Errored) ∷ (Outer, Final 1 Errored true) ∷ (Outer, Final 0 Errored true) ∷ []) []

-- Stopping.

-- stream 1 begins, though the end of stream 0 stops it
abbrev pub stopped_one_begins : RunRecord
stopped_one_begins = with_events stopped
    ((Outer, Lease 0 0) ∷ (Outer, Lease 1 0) ∷ (Inner 0, Acquire 0 0) ∷ (Inner 0, Close 0 Succeeded) ∷ (Inner 0, Final 0 Succeeded true) ∷ (Inner 0, Cancel 0 Succeeded) ∷ (Outer, Close 0 Succeeded) ∷ (Inner 1, Close 0 Canceled) ∷ (Inner 1, Cancel 1 Canceled) ∷ [])

-- stream 1 begins behind stream 0, which failed
abbrev pub begins_behind_a_fault : RunRecord
begins_behind_a_fault = record stopped_one_begins { ends = ends_of how.Done (how.Fault code.Open ∷ how.Halted ∷ []) }

-- stream 1 begins behind a frame of stream 0 that couldn't be written
abbrev pub begins_behind_a_failed_write : RunRecord
begins_behind_a_failed_write = record stopped_one_begins { ends = ends_of how.Done (how.Halted ∷ how.Halted ∷ []); frames = []; cut = Some (frame 0 (codes "x\n")) }

-- a stream begins where nothing may be printed
abbrev pub begins_in_silence : RunRecord
begins_in_silence = with_events silent ((Outer, Lease 0 0) ∷ (Outer, Close 0 Canceled) ∷ (Inner 0, Close 0 Canceled) ∷ (Inner 0, Cancel 0 Canceled) ∷ [])

-- Exits.

-- the outer stream is done, and closes its root as if it had failed
abbrev pub root_told_otherwise : RunRecord
root_told_otherwise = with_events copied ((Outer, Lease 0 0) ∷ (Outer, Close 0 Errored) ∷ (Inner 0, Acquire 0 0) ∷ (Inner 0, Acquire 1 0) ∷ (Inner 0, Close 0 Succeeded) ∷ (Inner 0, Final 1 Succeeded true) ∷ (Inner 0, Final 0 Succeeded true) ∷ (Inner 0, Cancel 0 Succeeded) ∷ [])

-- the stream is done, and cancels its lease as if it had been halted
abbrev pub cancel_told_otherwise : RunRecord
cancel_told_otherwise = with_events copied ((Outer, Lease 0 0) ∷ (Outer, Close 0 Succeeded) ∷ (Inner 0, Acquire 0 0) ∷ (Inner 0, Acquire 1 0) ∷ (Inner 0, Close 0 Succeeded) ∷ (Inner 0, Final 1 Succeeded true) ∷ (Inner 0, Final 0 Succeeded true) ∷ (Inner 0, Cancel 0 Canceled) ∷ [])

-- Two sides.

-- the run with another text for its only frame
abbrev pub with_text : RunRecord → List ℕ → RunRecord
with_text c text = record c { frames = frame 0 text ∷ [] }

-- the third line is printed as a pair, though it has no partner
abbrev pub third_pair : RunRecord
third_pair = with_text paired (codes "a,1\nb,2\nc,\n")

-- lines that stand at unequal places come as a pair
abbrev pub crossed_pairs : RunRecord
crossed_pairs = with_text paired (codes "a,2\nb,1\n")

-- the second file is never closed
abbrev pub side_left_open : RunRecord
side_left_open = record paired { depot_new = record paired.depot_new { retired = record (read_device 0 path_p three_lines Succeeded) { ended = false } ∷ record (read_device 1 path_q two_lines Succeeded) { is_open = true; closes = 0; exit = None } ∷ [] } }

-- Five files.

-- the third stream begins before the second one has left, where one may be open
abbrev pub third_too_early : RunRecord
third_too_early = with_events five
    ((Outer, Lease 0 0) ∷ (Outer, Lease 1 0) ∷ (visit 0 ++ ((Outer, Lease 2 0) ∷ (Outer, Lease 3 0) ∷ (Inner 1, Acquire 1 0) ∷ (Inner 2, Acquire 2 0) ∷ (Inner 1, Close 0 Succeeded) ∷ (Inner 1, Final 1 Succeeded true) ∷ (Inner 1, Cancel 1 Succeeded)
    ∷ (Inner 2, Close 0 Succeeded) ∷ (Inner 2, Final 2 Succeeded true) ∷ (Inner 2, Cancel 2 Succeeded) ∷ (Outer, Lease 4 0) ∷ (visit 3 ++ ((Outer, Close 0 Succeeded) ∷ visit 4)))))

-- what the first stream gave is printed as of the second, whose file is empty
abbrev pub another_number : RunRecord
another_number = record five { frames = frame 1 (codes "a") ∷ drop 1 five.frames }

-- One stream.

-- the outer stream is done, and never closed its root
abbrev pub done_without_close : RunRecord
done_without_close = with_events unbegun ((Outer, Lease 0 0) ∷ (Outer, Cancel 0 Canceled) ∷ [])

-- the stream begins, though nothing may be printed
abbrev pub begins_unwanted : RunRecord
begins_unwanted = with_events ungiven ((Outer, Lease 0 0) ∷ (Outer, Close 0 Canceled) ∷ (Inner 0, Close 0 Canceled) ∷ (Inner 0, Cancel 0 Canceled) ∷ [])

-- the outer stream cancels the lease of a stream that was begun
abbrev pub canceled_by_another : RunRecord
canceled_by_another = run_of x_listing x_listing (x_device ∷ []) (ends_of how.Done (how.Done ∷ []))
    ((Outer, Lease 0 0) ∷ (Outer, Close 0 Succeeded) ∷ (Inner 0, Acquire 0 0) ∷ (Inner 0, Close 0 Succeeded) ∷ (Inner 0, Final 0 Succeeded true) ∷ (Outer, Cancel 0 Canceled) ∷ []) (frame 0 (codes "x\n") ∷ [])
