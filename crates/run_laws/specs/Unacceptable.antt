-- Runs that no user would accept.
use Rattle.std.specs.Prelude.{ℕ, true, false, List, [], ◌∷◌, ◌++◌, None, Some, codes}
use Rattle.chunk_core.specs.Texts.{Frame, frame_text}
use Rattle.chunk_core.specs.declared.code.Code.TheVariants as code
use Rattle.chunk_core.specs.declared.code.Exit.TheVariants.{Succeeded, Errored, Canceled}
use Rattle.chunk_core.specs.declared.code.How.TheVariants as how
use Rattle.res_ledger.specs.declared.event.StreamNo.{StreamNo}
use Rattle.res_ledger.specs.declared.event.StreamNo.TheVariants.{Outer, Inner}
use Rattle.res_ledger.specs.declared.event.What.{What}
use Rattle.res_ledger.specs.declared.event.What.TheVariants.{Acquire, Lease, Cancel, Close, Final}
use Rattle.device_port.specs.Device.{DeviceTold, to_read}
use Rattle.pull_nodes.specs.Runs.{Reads, ReadsWhole}
use Rattle.run_rules.specs.Run.{Performs}
use Rattle.run_rules.specs.Work.{RunRecord, Work}
use Rattle.run_laws.specs.Files.{file_run, lines_work, path_a, taker_stops, taker_stops_work}
use Rattle.run_laws.specs.FiveFiles.{five_files, five_devices, five_work, visit}
use Rattle.run_laws.specs.InTime.{fails, halted_before_the_end, halted_before_the_fault, halts, outer_halted_before_the_fault, side_by_side_work, until_beside_work}
use Rattle.run_laws.specs.OneStream.{one_stream_work, x_listing}
use Rattle.run_laws.specs.Others.{copy_work, hello, no_streams, silent_work, stopped, stopped_work, table_files, two_listing, two_tables, u_csv, x_device}
use Rattle.run_laws.specs.Refused.{in_turn_work, with_events}
use Rattle.run_laws.specs.Streams.{InFile, file_stream, no_listing, opener, two_files}
use Rattle.run_laws.specs.Tables.{a_csv, keys_bytes, lookup, lookup_files, lookup_work, missing_files, path_b, t_csv, table_bytes}
use Rattle.run_laws.specs.Written.{Listing, ends_of, frame, missing_device, read_device, run_of, used_device}

-- the stream is leased for before the table is acquired, so its lease covers nothing: the table ends before the stream that looks up in it begins
abbrev pub leased_before_table : RunRecord
leased_before_table = with_events lookup ((Outer, Lease 0 0) ∷ (Outer, Acquire 0 0) ∷ (Outer, Close 0 Succeeded) ∷ (Outer, Final 0 Succeeded true) ∷ (Inner 0, Acquire 1 0) ∷ (Inner 0, Close 0 Succeeded) ∷ (Inner 0, Final 1 Succeeded true) ∷ (Inner 0, Cancel 0 Succeeded) ∷ [])

-- the table isn't there, the outer stream fails by it, and the stream that looks up in it runs all the same, to its end
abbrev pub ran_behind_missing_table : RunRecord
ran_behind_missing_table = run_of missing_files missing_files (missing_device 0 t_csv ∷ read_device 1 a_csv keys_bytes Succeeded ∷ []) (ends_of (how.Fault code.Open) (how.Done ∷ []))
    ((Outer, Lease 0 0) ∷ (Outer, Close 0 Errored) ∷ (Inner 0, Acquire 1 0) ∷ (Inner 0, Close 0 Succeeded) ∷ (Inner 0, Final 1 Succeeded true) ∷ (Inner 0, Cancel 0 Succeeded) ∷ [])
    (frame 0 (codes "k,\nz,\n") ∷ [])

-- the outer stream found no memory, no table was opened, and the stream that looks up in it found its values all the same
abbrev pub looked_up_unopened : RunRecord
looked_up_unopened = record (run_of lookup_files lookup_files (read_device 0 a_csv keys_bytes Succeeded ∷ []) (ends_of how.Memory (how.Done ∷ []))
    ((Outer, Lease 0 0) ∷ (Outer, Close 0 Canceled) ∷ (Inner 0, Acquire 1 0) ∷ (Inner 0, Close 0 Succeeded) ∷ (Inner 0, Final 1 Succeeded true) ∷ (Inner 0, Cancel 0 Succeeded) ∷ [])
    (frame 0 (codes "k,v\nz,\n") ∷ [])) { memory = true }

-- nothing may be printed, no device was made, and the file that a stream would have written to is empty now
abbrev pub silent_copy_work : Work
silent_copy_work = record copy_work { opener = Some (opener [] 4 (Some 0)) }

abbrev pub lost_file : RunRecord
lost_file = run_of ((path_a, hello) ∷ (path_b, hello) ∷ []) ((path_a, hello) ∷ (path_b, []) ∷ []) [] (ends_of how.Halted (how.Halted ∷ [])) ((Outer, Close 0 Canceled) ∷ []) []

-- one stream may be open at a time; the outer stream gives all five at once, the last first, and they run backwards
abbrev pub backwards : RunRecord
backwards = run_of (five_files (codes "1") (codes "2") (codes "3") (codes "4") (codes "5")) (five_files (codes "1") (codes "2") (codes "3") (codes "4") (codes "5")) (five_devices (codes "1") (codes "2") (codes "3") (codes "4") (codes "5")) (ends_of how.Done (how.Done ∷ how.Done ∷ how.Done ∷ how.Done ∷ how.Done ∷ []))
    ((Outer, Lease 4 0) ∷ (Outer, Lease 3 0) ∷ (Outer, Lease 2 0) ∷ (Outer, Lease 1 0) ∷ (Outer, Lease 0 0) ∷ (Outer, Close 0 Succeeded) ∷ (visit 4 ++ (visit 3 ++ (visit 2 ++ (visit 1 ++ visit 0)))))
    (frame 4 (codes "5") ∷ frame 3 (codes "4") ∷ frame 2 (codes "3") ∷ frame 1 (codes "2") ∷ frame 0 (codes "1") ∷ [])

-- one stream may be open at a time, and the second one's frame is printed before the first one's
abbrev pub frames_out_of_turn : RunRecord
frames_out_of_turn = run_of two_listing two_listing (x_device ∷ read_device 1 path_b (codes "y\n") Succeeded ∷ []) (ends_of how.Done (how.Done ∷ how.Done ∷ []))
    ((Outer, Lease 0 0) ∷ (Outer, Lease 1 0) ∷ (visit 0 ++ ((Outer, Close 0 Succeeded) ∷ visit 1)))
    (frame 1 (codes "y\n") ∷ frame 0 (codes "x\n") ∷ [])

-- a stream that is halted closes its root as failed and cancels its lease as succeeded
abbrev pub told_two_exits : RunRecord
told_two_exits = run_of x_listing x_listing (record (used_device 0 (to_read path_a) (codes "x\n") Errored) { at = 2 } ∷ []) (ends_of how.Done (how.Halted ∷ []))
    ((Outer, Lease 0 0) ∷ (Outer, Close 0 Succeeded) ∷ (Inner 0, Acquire 0 0) ∷ (Inner 0, Close 0 Errored) ∷ (Inner 0, Final 0 Errored true) ∷ (Inner 0, Cancel 0 Succeeded) ∷ []) (frame 0 (codes "x\n") ∷ [])

-- the outer stream is halted before any stream has begun, by the fault that the first one has later
abbrev pub halted_beforehand : RunRecord
halted_beforehand = run_of two_listing two_listing (record (used_device 0 (to_read path_a) (codes "x\n") Errored) { read_faults = 1 } ∷ []) (ends_of how.Halted (how.Fault code.Read ∷ how.Halted ∷ []))
    ((Outer, Lease 0 0) ∷ (Outer, Close 0 Canceled) ∷ (Inner 0, Acquire 0 0) ∷ (Inner 0, Close 0 Errored) ∷ (Inner 0, Final 0 Errored true) ∷ (Inner 0, Cancel 0 Errored) ∷ []) []

-- one stream may be open at a time, the first is to end with the second, and is halted by it though it comes first
abbrev pub until_later_work : Work
until_later_work = record in_turn_work { streams = record (file_stream path_a) { until = Some 1 } ∷ file_stream path_b ∷ [] }

abbrev pub halted_by_a_later_end : RunRecord
halted_by_a_later_end = run_of two_listing two_listing (read_device 0 path_b (codes "y\n") Succeeded ∷ []) (ends_of how.Done (how.Halted ∷ how.Done ∷ []))
    ((Outer, Lease 0 0) ∷ (Outer, Lease 1 0) ∷ (Outer, Cancel 0 Canceled) ∷ (Outer, Close 0 Succeeded) ∷ (Inner 1, Acquire 1 0) ∷ (Inner 1, Close 0 Succeeded) ∷ (Inner 1, Final 1 Succeeded true) ∷ (Inner 1, Cancel 1 Succeeded) ∷ [])
    (frame 1 (codes "y\n") ∷ [])

-- nothing may be printed, nobody began, and a file was opened and closed twice
abbrev pub opened_twice : RunRecord
opened_twice = run_of x_listing x_listing (record (used_device 0 (to_read path_a) (codes "x\n") Canceled) { at = 2; ended = true; opens = 2; closes = 2; exit = None } ∷ []) (ends_of how.Halted (how.Halted ∷ [])) ((Outer, Close 0 Canceled) ∷ []) []

-- a frame ends within a line
abbrev pub line_cut_in_two : RunRecord
line_cut_in_two = file_run (codes "a\r\nb") 4 true how.Done (frame 0 (codes "a") ∷ frame 0 (codes "\nb\n") ∷ [])

-- the file has four bytes, and five were read of it before the reading was left
abbrev pub read_beyond_the_end : RunRecord
read_beyond_the_end = file_run (codes "a\nb\n") 5 false how.Done taker_stops.frames

-- nothing may be printed, and the table is read and all streams are given
abbrev pub read_for_nobody : RunRecord
read_for_nobody = run_of two_listing two_listing (read_device 0 t_csv table_bytes Canceled ∷ []) (ends_of how.Done (how.Halted ∷ how.Halted ∷ []))
    ((Outer, Acquire 0 0) ∷ (Outer, Lease 0 0) ∷ (Outer, Lease 1 0) ∷ (Outer, Close 0 Succeeded) ∷ (Outer, Cancel 1 Canceled) ∷ (Outer, Cancel 0 Canceled) ∷ (Outer, Final 0 Canceled true) ∷ []) []

-- the second table is acquired first
abbrev pub tables_backwards : RunRecord
tables_backwards = with_events two_tables ((Outer, Acquire 1 0) ∷ (Outer, Acquire 0 0) ∷ (Outer, Close 0 Succeeded) ∷ (Outer, Final 0 Succeeded true) ∷ (Outer, Final 1 Succeeded true) ∷ [])

-- nobody began since there was no memory, and a file was tried
abbrev pub tried_unmade : RunRecord
tried_unmade = record (run_of [] [] (missing_device 0 path_a ∷ []) [] [] []) { memory = true }

-- all of the first stream was printed and everyone told that it succeeded, and it is said to be halted, since another one failed
abbrev pub halted_though_whole : RunRecord
halted_though_whole = run_of ((path_a, codes "x\n") ∷ []) ((path_a, codes "x\n") ∷ []) (x_device ∷ missing_device 1 path_b ∷ []) (ends_of how.Done (how.Halted ∷ how.Fault code.Open ∷ []))
    ((Outer, Lease 0 0) ∷ (Outer, Lease 1 0) ∷ (Outer, Close 0 Succeeded) ∷ (visit 0 ++ ((Inner 1, Close 0 Errored) ∷ (Inner 1, Cancel 1 Errored) ∷ [])))
    (frame 0 (codes "x\n") ∷ [])

-- a read failed, the stream is said to be halted by the end of another one, and the status is 0
abbrev pub fault_hidden_by_until : RunRecord
fault_hidden_by_until = run_of two_listing two_listing (x_device ∷ record (used_device 1 (to_read path_b) (codes "y\n") Errored) { read_faults = 1 } ∷ []) (ends_of how.Done (how.Done ∷ how.Halted ∷ []))
    ((Outer, Lease 0 0) ∷ (Outer, Lease 1 0) ∷ (Outer, Close 0 Succeeded) ∷ (visit 0 ++ ((Inner 1, Acquire 1 0) ∷ (Inner 1, Close 0 Errored) ∷ (Inner 1, Final 1 Errored true) ∷ (Inner 1, Cancel 1 Errored) ∷ [])))
    (frame 0 (codes "x\n") ∷ [])

-- the file isn't there, and it was opened and read to its end all the same
abbrev pub missing_opened : RunRecord
missing_opened = run_of [] [] (record (used_device 0 (to_read path_a) [] Succeeded) { present = Some false; ended = true } ∷ []) (ends_of how.Done (how.Done ∷ []))
    ((Outer, Lease 0 0) ∷ (Outer, Close 0 Succeeded) ∷ (Inner 0, Acquire 0 0) ∷ (Inner 0, Close 0 Succeeded) ∷ (Inner 0, Final 0 Succeeded true) ∷ (Inner 0, Cancel 0 Succeeded) ∷ []) []

-- all are done, and memory is said to have been wanting
abbrev pub wanting_at_no_end : RunRecord
wanting_at_no_end = record lookup { memory = true }

-- Several streams side by side.

abbrev pub path_c : List ℕ
path_c = codes "c"

abbrev pub three_listing : Listing
three_listing = (path_a, codes "x\n") ∷ (path_b, codes "y\n") ∷ (path_c, codes "z\n") ∷ []

-- three files as they are, of which so many streams are open at once
abbrev pub three_work : ℕ → Work
three_work max_open = record {
  opener = Some (opener [] max_open None);
  streams = file_stream path_a ∷ file_stream path_b ∷ file_stream path_c ∷ [];
  runs = λ k v w. InFile (w k) (Reads (w k));
  ideal_runs = λ k v w. ReadsWhole (w k);
  listing = no_listing;
  ideal_listing = no_listing;
}

-- a run of the three files with this ledger, in which all are done
abbrev pub three_run : List (StreamNo × What) → RunRecord
three_run events = run_of three_listing three_listing (x_device ∷ read_device 1 path_b (codes "y\n") Succeeded ∷ read_device 2 path_c (codes "z\n") Succeeded ∷ []) (ends_of how.Done (how.Done ∷ how.Done ∷ how.Done ∷ [])) events
    (frame 0 (codes "x\n") ∷ frame 1 (codes "y\n") ∷ frame 2 (codes "z\n") ∷ [])

-- two streams may be open at once, and the third begins before both of the others
abbrev pub begins_before_its_turn : RunRecord
begins_before_its_turn = three_run ((Outer, Lease 0 0) ∷ (Outer, Lease 1 0) ∷ (Outer, Lease 2 0) ∷ (Outer, Close 0 Succeeded) ∷ (visit 2 ++ (visit 0 ++ visit 1)))

-- one stream may be open at a time, and all three are given before any has begun
abbrev pub given_without_waiting : RunRecord
given_without_waiting = three_run ((Outer, Lease 0 0) ∷ (Outer, Lease 1 0) ∷ (Outer, Lease 2 0) ∷ (Outer, Close 0 Succeeded) ∷ (visit 0 ++ (visit 1 ++ visit 2)))

-- two files side by side
abbrev pub both_devices : List DeviceTold
both_devices = x_device ∷ read_device 1 path_b (codes "y\n") Succeeded ∷ []

abbrev pub both_events : List (StreamNo × What)
both_events = (Outer, Lease 0 0) ∷ (Outer, Lease 1 0) ∷ (Outer, Close 0 Succeeded) ∷ (visit 0 ++ visit 1)

abbrev pub both_frames : List Frame
both_frames = frame 0 (codes "x\n") ∷ frame 1 (codes "y\n") ∷ []

-- both are done
abbrev pub both_done : RunRecord
both_done = run_of two_listing two_listing both_devices (ends_of how.Done (how.Done ∷ how.Done ∷ [])) both_events both_frames

-- the second is passed over, though nothing stopped it
abbrev pub passed_over_for_nothing : RunRecord
passed_over_for_nothing = run_of two_listing two_listing (x_device ∷ []) (ends_of how.Done (how.Done ∷ how.Halted ∷ [])) ((Outer, Lease 0 0) ∷ (Outer, Lease 1 0) ∷ (Outer, Close 0 Succeeded) ∷ (Outer, Cancel 1 Canceled) ∷ visit 0) (frame 0 (codes "x\n") ∷ [])

-- a third stream is leased for, where there are two
abbrev pub leased_for_nobody : RunRecord
leased_for_nobody = with_events both_done ((Outer, Lease 0 0) ∷ (Outer, Lease 1 0) ∷ (Outer, Lease 2 0) ∷ (Outer, Close 0 Succeeded) ∷ (Outer, Cancel 2 Canceled) ∷ (visit 0 ++ visit 1))

-- both streams read one file, each through a row of its own, and one device was opened for both
abbrev pub same_file_work : Work
same_file_work = record side_by_side_work { streams = file_stream path_a ∷ file_stream path_a ∷ [] }

abbrev pub one_device_for_both : RunRecord
one_device_for_both = run_of two_listing two_listing (x_device ∷ []) (ends_of how.Done (how.Done ∷ how.Done ∷ [])) both_events (frame 0 (codes "x\n") ∷ frame 1 (codes "x\n") ∷ [])

-- the ends of the two stand in the other order
abbrev pub ends_swapped : RunRecord
ends_swapped = record both_done { ends = record { who = Outer; how = how.Done } ∷ record { who = Inner 1; how = how.Done } ∷ record { who = Inner 0; how = how.Done } ∷ [] }

-- a file that was only read holds something else afterwards
abbrev pub read_file_changed : RunRecord
read_file_changed = run_of ((path_a, codes "x\n") ∷ (path_b, codes "y\n") ∷ []) ((path_a, codes "x\n") ∷ (path_b, []) ∷ []) both_devices (ends_of how.Done (how.Done ∷ how.Done ∷ [])) both_events both_frames

-- a frame of a third stream, where there are two
abbrev pub printed_by_nobody : RunRecord
printed_by_nobody = record both_done { frames = both_frames ++ frame 2 (codes "z\n") ∷ [] }

-- the write of the second frame is said to have failed, and all of it was written
abbrev pub failed_though_written : RunRecord
failed_though_written = record (run_of two_listing two_listing both_devices (ends_of how.Done (how.Done ∷ how.Halted ∷ [])) both_events (frame 0 (codes "x\n") ∷ [])) { cut = Some (frame 1 (codes "y\n")); rest = frame_text 1 (codes "y\n") }

-- the table was read in part when the outer stream found no memory, and the first stream runs over it all the same
abbrev pub tabled_work : Work
tabled_work = record silent_work { opener = Some (opener (t_csv ∷ []) 4 None) }

abbrev pub half_table : DeviceTold
half_table = record (used_device 0 (to_read t_csv) table_bytes Canceled) { at = 1 }

abbrev pub ran_over_half_a_table : RunRecord
ran_over_half_a_table = record (run_of two_listing two_listing (half_table ∷ read_device 1 path_a (codes "x\n") Succeeded ∷ []) (ends_of how.Memory (how.Done ∷ how.Halted ∷ []))
    ((Outer, Acquire 0 0) ∷ (Outer, Lease 0 0) ∷ (Outer, Lease 1 0) ∷ (Inner 0, Acquire 1 0) ∷ (Inner 0, Close 0 Succeeded) ∷ (Inner 0, Final 1 Succeeded true) ∷ (Inner 0, Cancel 0 Succeeded) ∷ (Outer, Close 0 Canceled) ∷ (Outer, Cancel 1 Canceled) ∷ (Outer, Final 0 Canceled true) ∷ [])
    (frame 0 (codes "x\n") ∷ [])) { memory = true }

-- Streams that are left, and tables without memory.

-- one stream may be open at a time; the first fails, the second is never begun, and its file was tried
abbrev pub tried_unbegun : RunRecord
tried_unbegun = run_of [] [] (missing_device 0 path_a ∷ missing_device 1 path_b ∷ []) (ends_of how.Halted (how.Fault code.Open ∷ how.Halted ∷ []))
    ((Outer, Lease 0 0) ∷ (Outer, Lease 1 0) ∷ (Inner 0, Close 0 Errored) ∷ (Inner 0, Cancel 0 Errored) ∷ (Outer, Cancel 1 Canceled) ∷ (Outer, Close 0 Canceled) ∷ []) []

-- the second stream is passed over and its lease cancelled before any stream has begun, because of a fault that the third has later
abbrev pub passed_over : RunRecord
passed_over = run_of ((path_a, codes "x\n") ∷ (path_b, codes "y\n") ∷ []) ((path_a, codes "x\n") ∷ (path_b, codes "y\n") ∷ []) (read_device 0 path_a (codes "x\n") Succeeded ∷ missing_device 1 path_c ∷ []) (ends_of how.Done (how.Done ∷ how.Halted ∷ how.Fault code.Open ∷ []))
    ((Outer, Lease 0 0) ∷ (Outer, Lease 1 0) ∷ (Outer, Lease 2 0) ∷ (Outer, Close 0 Succeeded) ∷ (Outer, Cancel 1 Canceled) ∷ (Inner 0, Acquire 0 0) ∷ (Inner 0, Close 0 Succeeded) ∷ (Inner 0, Final 0 Succeeded true) ∷ (Inner 0, Cancel 0 Succeeded) ∷ (Inner 2, Close 0 Errored) ∷ (Inner 2, Cancel 2 Errored) ∷ []) (frame 0 (codes "x\n") ∷ [])

-- one stream may be open at a time; the first is halted, and only the second, which begins later, finds no memory
abbrev pub halted_by_later_memory : RunRecord
halted_by_later_memory = record (run_of two_listing two_listing (record (used_device 0 (to_read path_a) (codes "x\n") Canceled) { at = 2 } ∷ []) (ends_of how.Done (how.Halted ∷ how.Memory ∷ []))
    ((Outer, Lease 0 0) ∷ (Outer, Lease 1 0) ∷ (Inner 0, Acquire 0 0) ∷ (Inner 0, Close 0 Canceled) ∷ (Inner 0, Final 0 Canceled true) ∷ (Inner 0, Cancel 0 Canceled) ∷ (Outer, Close 0 Succeeded) ∷ (Inner 1, Close 0 Canceled) ∷ (Inner 1, Cancel 1 Canceled) ∷ []) (frame 0 (codes "x\n") ∷ [])) { memory = true }

-- all that may be printed was printed, the second file was read in part and left, and its finalizer is told that the stream succeeded
abbrev pub succeeded_though_left : RunRecord
succeeded_though_left = run_of two_listing two_listing (read_device 0 path_a (codes "x\n") Succeeded ∷ record (used_device 1 (to_read path_b) (codes "y\n") Succeeded) { at = 1 } ∷ []) (ends_of how.Done (how.Done ∷ how.Halted ∷ []))
    ((Outer, Lease 0 0) ∷ (Outer, Lease 1 0) ∷ (Outer, Close 0 Succeeded) ∷ (Inner 0, Acquire 0 0) ∷ (Inner 0, Close 0 Succeeded) ∷ (Inner 0, Final 0 Succeeded true) ∷ (Inner 0, Cancel 0 Succeeded) ∷ (Inner 1, Acquire 1 0) ∷ (Inner 1, Close 0 Succeeded) ∷ (Inner 1, Final 1 Succeeded true) ∷ (Inner 1, Cancel 1 Succeeded) ∷ []) (frame 0 (codes "x\n") ∷ [])

-- the first table is not there, and the outer stream says that it found no memory
abbrev pub memory_for_a_missing_table : RunRecord
memory_for_a_missing_table = record (run_of missing_files missing_files (missing_device 0 t_csv ∷ []) (ends_of how.Memory (how.Halted ∷ []))
    ((Outer, Close 0 Canceled) ∷ []) []) { memory = true }

-- the outer stream found no memory, the first table was never tried, and the second one was read
abbrev pub second_table_alone : RunRecord
second_table_alone = record (run_of table_files table_files (read_device 0 u_csv (codes "k,w\n") Canceled ∷ []) (ends_of how.Memory [])
    ((Outer, Acquire 1 0) ∷ (Outer, Close 0 Canceled) ∷ (Outer, Final 1 Canceled true) ∷ []) []) { memory = true }

-- Streams that begin in room that wasn't there, and want of memory for nothing.

-- two streams may be open at once, and all three fail, the third one's file being tried though two had failed
abbrev pub all_fail : RunRecord
all_fail = run_of [] [] (missing_device 0 path_a ∷ missing_device 1 path_b ∷ missing_device 2 path_c ∷ []) (ends_of how.Done (how.Fault code.Open ∷ how.Fault code.Open ∷ how.Fault code.Open ∷ []))
    ((Outer, Lease 0 0) ∷ (Outer, Lease 1 0) ∷ (Outer, Lease 2 0) ∷ (Outer, Close 0 Succeeded) ∷ (fails 0 ++ (fails 1 ++ fails 2))) []

-- two streams may be open at once, and the third one prints before both of the others
abbrev pub three_events : List (StreamNo × What)
three_events = (Outer, Lease 0 0) ∷ (Outer, Lease 1 0) ∷ (Outer, Lease 2 0) ∷ (Outer, Close 0 Succeeded) ∷ (visit 0 ++ (visit 1 ++ visit 2))

abbrev pub frames_before_their_turn : RunRecord
frames_before_their_turn = record (three_run three_events) { frames = frame 2 (codes "z\n") ∷ frame 0 (codes "x\n") ∷ frame 1 (codes "y\n") ∷ [] }

-- two streams may be open at once, the third is to end with the second, and it begins in the room that this one leaves while the first, which prints behind it, is open
abbrev pub until_second_work : Work
until_second_work = record (three_work 2) { streams = file_stream path_a ∷ file_stream path_b ∷ record (file_stream path_c) { until = Some 1 } ∷ [] }

abbrev pub begins_behind_its_until : RunRecord
begins_behind_its_until = record (three_run three_events) { frames = frame 1 (codes "y\n") ∷ frame 2 (codes "z\n") ∷ frame 0 (codes "x\n") ∷ [] }

-- two streams may be open at once and one frame is printed: the second one prints it, and the third is begun all the same, while the first is open, which is halted as it is
abbrev pub one_of_three_work : Work
one_of_three_work = record (three_work 2) { opener = Some (opener [] 2 (Some 1)) }

abbrev pub begins_behind_the_last_frame : RunRecord
begins_behind_the_last_frame = run_of three_listing three_listing (used_device 0 (to_read path_a) (codes "x\n") Canceled ∷ read_device 1 path_b (codes "y\n") Succeeded ∷ used_device 2 (to_read path_c) (codes "z\n") Canceled ∷ []) (ends_of how.Done (how.Halted ∷ how.Done ∷ how.Halted ∷ []))
    ((Outer, Lease 0 0) ∷ (Outer, Lease 1 0) ∷ (Outer, Lease 2 0) ∷ (Outer, Close 0 Succeeded) ∷ (visit 1 ++ (halts 0 ++ halts 2))) (frame 1 (codes "y\n") ∷ [])

-- two streams may be open at once, the third is to end with the second, and it begins in the room that this one leaves while the first is open, as the ledger alone shows
abbrev pub begins_beside_its_until : RunRecord
begins_beside_its_until = three_run
    ((Outer, Lease 0 0) ∷ (Outer, Lease 1 0) ∷ (Outer, Lease 2 0) ∷ (Outer, Close 0 Succeeded) ∷ (Inner 0, Acquire 0 0) ∷ (visit 1 ++ (visit 2 ++ ((Inner 0, Close 0 Succeeded) ∷ (Inner 0, Final 0 Succeeded true) ∷ (Inner 0, Cancel 0 Succeeded) ∷ []))))

-- one stream may be open at a time, the first one fails, and the outer stream gives on behind it, stream after stream, in the room that it left, though none of them is begun
abbrev pub gives_on_behind_a_fault : RunRecord
gives_on_behind_a_fault = run_of [] [] (missing_device 0 path_a ∷ []) (ends_of how.Done (how.Fault code.Open ∷ how.Halted ∷ how.Halted ∷ how.Halted ∷ how.Halted ∷ []))
    ((Outer, Lease 0 0) ∷ (Outer, Lease 1 0) ∷ (fails 0 ++ ((Outer, Lease 2 0) ∷ (Outer, Cancel 1 Canceled) ∷ (Outer, Lease 3 0) ∷ (Outer, Cancel 2 Canceled) ∷ (Outer, Lease 4 0) ∷ (Outer, Cancel 3 Canceled) ∷ (Outer, Close 0 Succeeded) ∷ (Outer, Cancel 4 Canceled) ∷ []))) []

-- one stream may be open at a time, the first one fails, and the outer stream is done behind it, where the second was the last to be given
abbrev pub done_behind_a_fault : RunRecord
done_behind_a_fault = run_of [] [] (missing_device 0 path_a ∷ []) (ends_of how.Done (how.Fault code.Open ∷ how.Halted ∷ []))
    ((Outer, Lease 0 0) ∷ (Outer, Lease 1 0) ∷ (fails 0 ++ ((Outer, Close 0 Succeeded) ∷ (Outer, Cancel 1 Canceled) ∷ []))) []

-- four streams may be open at once, the first one fails, the second is passed over for that, and the outer stream goes on behind the third
abbrev pub gives_on_behind_one_passed_over : RunRecord
gives_on_behind_one_passed_over = run_of [] [] (missing_device 0 path_a ∷ []) (ends_of how.Done (how.Fault code.Open ∷ how.Halted ∷ how.Halted ∷ []))
    ((Outer, Lease 0 0) ∷ (Outer, Lease 1 0) ∷ (fails 0 ++ ((Outer, Lease 2 0) ∷ (Outer, Cancel 1 Canceled) ∷ (Outer, Close 0 Succeeded) ∷ (Outer, Cancel 2 Canceled) ∷ []))) []

-- four streams may be open at once, there is no memory to begin the second, and the third begins all the same
abbrev pub begins_behind_one_unmade : RunRecord
begins_behind_one_unmade = record (run_of three_listing three_listing (x_device ∷ read_device 1 path_c (codes "z\n") Succeeded ∷ []) (ends_of how.Done (how.Done ∷ how.Memory ∷ how.Done ∷ []))
    ((Outer, Lease 0 0) ∷ (Outer, Lease 1 0) ∷ (visit 0 ++ ((Outer, Lease 2 0) ∷ (Outer, Cancel 1 Canceled) ∷ (Outer, Close 0 Succeeded) ∷ visit 2))) (frame 0 (codes "x\n") ∷ frame 2 (codes "z\n") ∷ [])) { memory = true }

-- one stream may be open at a time, the end of the first stops the second, and memory is said to have been wanting
abbrev pub memory_for_an_until : RunRecord
memory_for_an_until = record stopped { memory = true }

-- all that may be printed was printed, the other stream is halted for that, and memory is said to have been wanting
abbrev pub memory_for_the_last_frame : RunRecord
memory_for_the_last_frame = record begins_behind_the_last_frame { memory = true }

-- none of these did its work
pub record AreUnacceptable : Type 0 where
  pub leased_before : ¬ (Performs lookup_work leased_before_table)
  pub ran_behind_missing : ¬ (Performs lookup_work ran_behind_missing_table)
  pub unopened : ¬ (Performs lookup_work looked_up_unopened)
  pub lost : ¬ (Performs silent_copy_work lost_file)
  pub backward : ¬ (Performs five_work backwards)
  pub out_of_turn : ¬ (Performs in_turn_work frames_out_of_turn)
  pub two_exits : ¬ (Performs (one_stream_work (Some 1)) told_two_exits)
  pub beforehand : ¬ (Performs in_turn_work halted_beforehand)
  pub by_a_later_end : ¬ (Performs until_later_work halted_by_a_later_end)
  pub twice : ¬ (Performs (one_stream_work (Some 0)) opened_twice)
  pub cut_line : ¬ (Performs lines_work line_cut_in_two)
  pub beyond : ¬ (Performs taker_stops_work read_beyond_the_end)
  pub for_nobody : ¬ (Performs silent_work read_for_nobody)
  pub tables_back : ¬ (Performs (no_streams (t_csv ∷ u_csv ∷ [])) tables_backwards)
  pub unmade : ¬ (Performs (one_stream_work None) tried_unmade)
  pub whole : ¬ (Performs (two_files (opener [] 4 None) None) halted_though_whole)
  pub hidden : ¬ (Performs (two_files (opener [] 4 None) (Some 0)) fault_hidden_by_until)
  pub missing : ¬ (Performs (one_stream_work None) missing_opened)
  pub wanting : ¬ (Performs lookup_work wanting_at_no_end)
  pub before_its_turn : ¬ (Performs (three_work 2) begins_before_its_turn)
  pub without_waiting : ¬ (Performs (three_work 1) given_without_waiting)
  pub for_nothing : ¬ (Performs side_by_side_work passed_over_for_nothing)
  pub to_nobody : ¬ (Performs side_by_side_work leased_for_nobody)
  pub one_device : ¬ (Performs same_file_work one_device_for_both)
  pub swapped : ¬ (Performs side_by_side_work ends_swapped)
  pub changed : ¬ (Performs side_by_side_work read_file_changed)
  pub by_nobody : ¬ (Performs side_by_side_work printed_by_nobody)
  pub written : ¬ (Performs side_by_side_work failed_though_written)
  pub half_a_table : ¬ (Performs tabled_work ran_over_half_a_table)
  pub unbegun : ¬ (Performs in_turn_work tried_unbegun)
  pub passed : ¬ (Performs (three_work 4) passed_over)
  pub by_later_memory : ¬ (Performs in_turn_work halted_by_later_memory)
  pub though_left : ¬ (Performs (two_files (opener [] 4 (Some 1)) None) succeeded_though_left)
  pub missing_table : ¬ (Performs lookup_work memory_for_a_missing_table)
  pub second_alone : ¬ (Performs (no_streams (t_csv ∷ u_csv ∷ [])) second_table_alone)
  pub all_failed : ¬ (Performs (three_work 2) all_fail)
  pub before_their_turn : ¬ (Performs (three_work 2) frames_before_their_turn)
  pub behind_its_until : ¬ (Performs until_second_work begins_behind_its_until)
  pub behind_the_last : ¬ (Performs one_of_three_work begins_behind_the_last_frame)
  pub beside_its_until : ¬ (Performs until_second_work begins_beside_its_until)
  pub behind_a_fault : ¬ (Performs five_work gives_on_behind_a_fault)
  pub done_behind : ¬ (Performs in_turn_work done_behind_a_fault)
  pub behind_one_passed : ¬ (Performs (three_work 4) gives_on_behind_one_passed_over)
  pub behind_one_unmade : ¬ (Performs (three_work 4) begins_behind_one_unmade)
  pub for_an_until : ¬ (Performs stopped_work memory_for_an_until)
  pub for_the_last : ¬ (Performs one_of_three_work memory_for_the_last_frame)
  pub before_the_fault : ¬ (Performs side_by_side_work halted_before_the_fault)
  pub outer_before_the_fault : ¬ (Performs side_by_side_work outer_halted_before_the_fault)
  pub before_the_end : ¬ (Performs until_beside_work halted_before_the_end)
