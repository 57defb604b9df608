-- Runs with tables, of several streams or none, and of a stream that is written to a file.
use Rattle.std.specs.Prelude.{ℕ, true, false, List, [], ◌∷◌, None, Some, codes, unwrap_or}
use Rattle.chunk_core.specs.Elements.{Row}
use Rattle.chunk_core.specs.Feed.{Given}
use Rattle.chunk_core.specs.Texts.{Frame}
use Rattle.chunk_core.specs.declared.code.Code.TheVariants as code
use Rattle.chunk_core.specs.declared.code.Exit.{Exit}
use Rattle.chunk_core.specs.declared.code.Exit.TheVariants.{Succeeded, Errored}
use Rattle.chunk_core.specs.declared.code.How.TheVariants as how
use Rattle.res_ledger.specs.declared.event.StreamNo.{StreamNo}
use Rattle.res_ledger.specs.declared.event.StreamNo.TheVariants.{Outer, Inner}
use Rattle.res_ledger.specs.declared.event.What.{What}
use Rattle.res_ledger.specs.declared.event.What.TheVariants.{Acquire, Lease, Cancel, Close, Final}
use Rattle.device_port.specs.Device.{DeviceTold, to_read}
use Rattle.pull_nodes.specs.PipeRule.{without_fault}
use Rattle.pull_nodes.specs.Runs.{Reads, ReadsWhole}
use Rattle.run_rules.specs.Work.{RunRecord, Values, Work}
use Rattle.run_laws.specs.Streams.{Gathered, InFile, Leaves, file_stream, no_listing, opener}
use Rattle.run_laws.specs.Written.{Listing, ends_of, frame, idle_device, missing_device, read_device, run_of, used_device}

abbrev pub path_b : List ℕ
path_b = codes "b"

abbrev pub t_csv : List ℕ
t_csv = codes "t.csv"

abbrev pub a_csv : List ℕ
a_csv = codes "a.csv"

-- A lookup through a lease.

abbrev pub table_bytes : List ℕ
table_bytes = codes "k,v\n"

abbrev pub keys_bytes : List ℕ
keys_bytes = codes "k\nz\n"

abbrev pub lookup_files : Listing
lookup_files = (t_csv, table_bytes) ∷ (a_csv, keys_bytes) ∷ []

-- the two keys, each with its value in the table t
abbrev pub looked_up_in : ℕ → Values → Given
looked_up_in t v = without_fault (Row (codes "k" ∷ unwrap_or (v t (codes "k")) [] ∷ []) ∷ Row (codes "z" ∷ unwrap_or (v t (codes "z")) [] ∷ []) ∷ [])

abbrev pub looked_up : Values → Given
looked_up v = looked_up_in 0 v

abbrev pub lookup_work : Work
lookup_work = record {
  opener = Some (opener (t_csv ∷ []) 4 None);
  streams = file_stream a_csv ∷ [];
  runs = λ k v w. InFile (w 1) (Gathered (Leaves (Reads (w 1))) (looked_up v));
  ideal_runs = λ k v w. Gathered (ReadsWhole (w 1)) (looked_up v);
  listing = no_listing;
  ideal_listing = no_listing;
}

-- the table's row waits for the lease, and ends with the exit of its Cancel
abbrev pub lookup_events : Exit → List (StreamNo × What)
lookup_events exit = (Outer, Acquire 0 0) ∷ (Outer, Lease 0 0) ∷ (Outer, Close 0 Succeeded) ∷ (Inner 0, Acquire 1 0) ∷ (Inner 0, Close 0 exit) ∷ (Inner 0, Final 1 exit true) ∷ (Inner 0, Cancel 0 exit) ∷ (Inner 0, Final 0 exit true) ∷ []

abbrev pub lookup_devices : List DeviceTold
lookup_devices = read_device 0 t_csv table_bytes Succeeded ∷ read_device 1 a_csv keys_bytes Succeeded ∷ []

abbrev pub lookup_frames : List Frame
lookup_frames = frame 0 (codes "k,v\nz,\n") ∷ []

abbrev pub lookup : RunRecord
lookup = run_of lookup_files lookup_files lookup_devices (ends_of how.Done (how.Done ∷ [])) (lookup_events Succeeded) lookup_frames

abbrev pub lookup_text : List ℕ
lookup_text = codes "0 7\nk,v\nz,\n\nend outer done\nend 0 done\nledger 8\nouter acquire 0 0\nouter lease 0 0\nouter close 0 succeeded\n0 acquire 1 0\n0 close 0 succeeded\n0 final 1 succeeded ok\n0 cancel 0 succeeded\n0 final 0 succeeded ok\n"

-- a table that can't be read: nothing begins behind it
abbrev pub failed_table_events : List (StreamNo × What)
failed_table_events = (Outer, Acquire 0 0) ∷ (Outer, Close 0 Errored) ∷ (Outer, Final 0 Errored true) ∷ []

abbrev pub unread_table_device : DeviceTold
unread_table_device = record (used_device 0 (to_read t_csv) table_bytes Errored) { read_faults = 1 }

abbrev pub unread_table : RunRecord
unread_table = run_of lookup_files lookup_files (unread_table_device ∷ []) (ends_of (how.Fault code.Read) (how.Halted ∷ [])) failed_table_events []

abbrev pub unread_table_text : List ℕ
unread_table_text = codes "end outer fault read\nend 0 halted\nledger 3\nouter acquire 0 0\nouter close 0 errored\nouter final 0 errored ok\n"

-- a table whose record has no value
abbrev pub refused_files : Listing
refused_files = (t_csv, codes "k\n") ∷ (a_csv, keys_bytes) ∷ []

abbrev pub refused_table : RunRecord
refused_table = run_of refused_files refused_files (read_device 0 t_csv (codes "k\n") Errored ∷ []) (ends_of (how.Fault code.NoField) (how.Halted ∷ [])) failed_table_events []

abbrev pub refused_table_text : List ℕ
refused_table_text = codes "end outer fault nofield\nend 0 halted\nledger 3\nouter acquire 0 0\nouter close 0 errored\nouter final 0 errored ok\n"

-- a table that isn't there
abbrev pub missing_files : Listing
missing_files = (a_csv, keys_bytes) ∷ []

abbrev pub missing_table : RunRecord
missing_table = run_of missing_files missing_files (missing_device 0 t_csv ∷ []) (ends_of (how.Fault code.Open) (how.Halted ∷ [])) ((Outer, Close 0 Errored) ∷ []) []

abbrev pub missing_table_text : List ℕ
missing_table_text = codes "end outer fault open\nend 0 halted\nledger 1\nouter close 0 errored\n"

-- a file that can't be opened: its lease is cancelled all the same
abbrev pub unopened_file : RunRecord
unopened_file = run_of lookup_files lookup_files (read_device 0 t_csv table_bytes Errored ∷ record (idle_device 1 (to_read a_csv) keys_bytes) { open_faults = 1 } ∷ []) (ends_of how.Done (how.Fault code.Open ∷ []))
    ((Outer, Acquire 0 0) ∷ (Outer, Lease 0 0) ∷ (Outer, Close 0 Succeeded) ∷ (Inner 0, Close 0 Errored) ∷ (Inner 0, Cancel 0 Errored) ∷ (Inner 0, Final 0 Errored true) ∷ []) []

abbrev pub unopened_file_text : List ℕ
unopened_file_text = codes "end outer done\nend 0 fault open\nledger 6\nouter acquire 0 0\nouter lease 0 0\nouter close 0 succeeded\n0 close 0 errored\n0 cancel 0 errored\n0 final 0 errored ok\n"

-- a file that can't be read: what was gathered doesn't come out
abbrev pub unread_file : RunRecord
unread_file = run_of lookup_files lookup_files (read_device 0 t_csv table_bytes Errored ∷ record (used_device 1 (to_read a_csv) keys_bytes Errored) { read_faults = 1 } ∷ []) (ends_of how.Done (how.Fault code.Read ∷ [])) (lookup_events Errored) []

abbrev pub unread_file_text : List ℕ
unread_file_text = codes "end outer done\nend 0 fault read\nledger 8\nouter acquire 0 0\nouter lease 0 0\nouter close 0 succeeded\n0 acquire 1 0\n0 close 0 errored\n0 final 1 errored ok\n0 cancel 0 errored\n0 final 0 errored ok\n"

-- a table that can't be closed well
abbrev pub unclean_table : RunRecord
unclean_table = run_of lookup_files lookup_files (record (read_device 0 t_csv table_bytes Succeeded) { close_faults = 1 } ∷ read_device 1 a_csv keys_bytes Succeeded ∷ []) (ends_of how.Done (how.Done ∷ []))
    ((Outer, Acquire 0 0) ∷ (Outer, Lease 0 0) ∷ (Outer, Close 0 Succeeded) ∷ (Inner 0, Acquire 1 0) ∷ (Inner 0, Close 0 Succeeded) ∷ (Inner 0, Final 1 Succeeded true) ∷ (Inner 0, Cancel 0 Succeeded) ∷ (Inner 0, Final 0 Succeeded false) ∷ []) lookup_frames

abbrev pub unclean_table_text : List ℕ
unclean_table_text = codes "0 7\nk,v\nz,\n\nend outer done\nend 0 done\nledger 8\nouter acquire 0 0\nouter lease 0 0\nouter close 0 succeeded\n0 acquire 1 0\n0 close 0 succeeded\n0 final 1 succeeded ok\n0 cancel 0 succeeded\n0 final 0 succeeded fault\n"

-- a file that can't be closed well
abbrev pub unclean_file : RunRecord
unclean_file = run_of lookup_files lookup_files (read_device 0 t_csv table_bytes Succeeded ∷ record (read_device 1 a_csv keys_bytes Succeeded) { close_faults = 1 } ∷ []) (ends_of how.Done (how.Done ∷ []))
    ((Outer, Acquire 0 0) ∷ (Outer, Lease 0 0) ∷ (Outer, Close 0 Succeeded) ∷ (Inner 0, Acquire 1 0) ∷ (Inner 0, Close 0 Succeeded) ∷ (Inner 0, Final 1 Succeeded false) ∷ (Inner 0, Cancel 0 Succeeded) ∷ (Inner 0, Final 0 Succeeded true) ∷ []) lookup_frames

abbrev pub unclean_file_text : List ℕ
unclean_file_text = codes "0 7\nk,v\nz,\n\nend outer done\nend 0 done\nledger 8\nouter acquire 0 0\nouter lease 0 0\nouter close 0 succeeded\n0 acquire 1 0\n0 close 0 succeeded\n0 final 1 succeeded fault\n0 cancel 0 succeeded\n0 final 0 succeeded ok\n"
