-- Runs of streams that belong to a group, which has a table of its own.
use Rattle.std.specs.Prelude.{ℕ, ◌+◌, true, List, [], ◌∷◌, ◌++◌, None, Some, codes}
use Rattle.chunk_core.specs.Texts.{Frame}
use Rattle.chunk_core.specs.declared.code.Exit.TheVariants.{Succeeded}
use Rattle.chunk_core.specs.declared.code.How.TheVariants as how
use Rattle.res_ledger.specs.declared.event.StreamNo.{StreamNo}
use Rattle.res_ledger.specs.declared.event.StreamNo.TheVariants.{Outer, Inner}
use Rattle.res_ledger.specs.declared.event.What.{What}
use Rattle.res_ledger.specs.declared.event.What.TheVariants.{Open, Acquire, Lease, Cancel, Close, Final}
use Rattle.device_port.specs.Device.{DeviceTold}
use Rattle.pull_nodes.specs.Runs.{Reads, ReadsWhole}
use Rattle.run_rules.specs.Work.{Opener, Part, RunRecord, Work}
use Rattle.run_laws.specs.Others.{u_csv}
use Rattle.run_laws.specs.Refused.{with_events}
use Rattle.run_laws.specs.Streams.{Gathered, InFile, Leaves, file_stream, no_listing, opener}
use Rattle.run_laws.specs.Tables.{a_csv, keys_bytes, looked_up_in, lookup, lookup_work, t_csv, table_bytes}
use Rattle.run_laws.specs.Written.{Listing, ends_of, frame, read_device, run_of}

-- groups of so many tables and streams each
abbrev pub part : ℕ → ℕ → Part
part tables streams = record { tables = tables; streams = streams }

-- the tables, of which the last ones belong to these groups
abbrev pub grouped_opener : List (List ℕ) → List Part → Opener
grouped_opener tables groups = record (opener tables 4 None) { groups = groups }

-- A lookup whose table and stream are those of a group.

abbrev pub group_work : Work
group_work = record lookup_work { opener = Some (grouped_opener (t_csv ∷ []) (part 1 1 ∷ [])) }

-- stream 0 runs behind its lease, and ends the row of the table
abbrev pub looks_up : List (StreamNo × What)
looks_up = (Inner 0, Acquire 1 0) ∷ (Inner 0, Close 0 Succeeded) ∷ (Inner 0, Final 1 Succeeded true) ∷ (Inner 0, Cancel 0 Succeeded) ∷ (Inner 0, Final 0 Succeeded true) ∷ []

-- the table is acquired in a child of the root, which is leased, and closed before the root is
abbrev pub grouped : RunRecord
grouped = with_events lookup ((Outer, Open 1 0) ∷ (Outer, Acquire 0 1) ∷ (Outer, Lease 0 1) ∷ (Outer, Close 1 Succeeded) ∷ (Outer, Close 0 Succeeded) ∷ looks_up)

abbrev pub grouped_text : List ℕ
grouped_text = codes "0 7\nk,v\nz,\n\nend outer done\nend 0 done\nledger 10\nouter open 1 0\nouter acquire 0 1\nouter lease 0 1\nouter close 1 succeeded\nouter close 0 succeeded\n0 acquire 1 0\n0 close 0 succeeded\n0 final 1 succeeded ok\n0 cancel 0 succeeded\n0 final 0 succeeded ok\n"

-- A group of two streams. The first looks up in the table of the top, and the second in that of the group.

abbrev pub b_csv : List ℕ
b_csv = codes "b.csv"

abbrev pub pair_files : Listing
pair_files = (t_csv, table_bytes) ∷ (u_csv, codes "k,w\n") ∷ (a_csv, keys_bytes) ∷ (b_csv, keys_bytes) ∷ []

-- two lookups, of two tables that belong to these groups
abbrev pub two_lookups : List Part → Work
two_lookups groups = record {
  opener = Some (grouped_opener (t_csv ∷ u_csv ∷ []) groups);
  streams = file_stream a_csv ∷ file_stream b_csv ∷ [];
  runs = λ k v w. InFile (w (2 + k)) (Gathered (Leaves (Reads (w (2 + k)))) (looked_up_in k v));
  ideal_runs = λ k v w. Gathered (ReadsWhole (w (2 + k))) (looked_up_in k v);
  listing = no_listing;
  ideal_listing = no_listing;
}

abbrev pub pair_work : Work
pair_work = two_lookups (part 1 2 ∷ [])

-- stream k runs
abbrev pub looks : ℕ → List (StreamNo × What)
looks k = (Inner k, Acquire (2 + k) 0) ∷ (Inner k, Close 0 Succeeded) ∷ (Inner k, Final (2 + k) Succeeded true) ∷ (Inner k, Cancel k Succeeded) ∷ []

-- both run, and the tables end behind the last of them
abbrev pub both_look : List (StreamNo × What)
both_look = looks 0 ++ (looks 1 ++ (Inner 1, Final 1 Succeeded true) ∷ (Inner 1, Final 0 Succeeded true) ∷ [])

abbrev pub pair_devices : List DeviceTold
pair_devices = read_device 0 t_csv table_bytes Succeeded ∷ read_device 1 u_csv (codes "k,w\n") Succeeded ∷ read_device 2 a_csv keys_bytes Succeeded ∷ read_device 3 b_csv keys_bytes Succeeded ∷ []

abbrev pub pair_frames : List Frame
pair_frames = frame 0 (codes "k,v\nz,\n") ∷ frame 1 (codes "k,w\nz,\n") ∷ []

-- a run of the two with this ledger, in which all are done
abbrev pub pair_run : List (StreamNo × What) → RunRecord
pair_run events = run_of pair_files pair_files pair_devices (ends_of how.Done (how.Done ∷ how.Done ∷ [])) events pair_frames

abbrev pub pair : RunRecord
pair = pair_run ((Outer, Acquire 0 0) ∷ (Outer, Open 1 0) ∷ (Outer, Acquire 1 1) ∷ (Outer, Lease 0 1) ∷ (Outer, Lease 1 1) ∷ (Outer, Close 1 Succeeded) ∷ (Outer, Close 0 Succeeded) ∷ both_look)

abbrev pub pair_text : List ℕ
pair_text =
    codes "0 7\nk,v\nz,\n\n1 7\nk,w\nz,\n\nend outer done\nend 0 done\nend 1 done\nledger 17\nouter acquire 0 0\nouter open 1 0\nouter acquire 1 1\nouter lease 0 1\nouter lease 1 1\nouter close 1 succeeded\nouter close 0 succeeded\n0 acquire 2 0\n0 close 0 succeeded\n0 final 2 succeeded ok\n0 cancel 0 succeeded\n1 acquire 3 0\n1 close 0 succeeded\n1 final 3 succeeded ok\n1 cancel 1 succeeded\n1 final 1 succeeded ok\n1 final 0 succeeded ok\n"
