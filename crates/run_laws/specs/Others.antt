-- Runs of no stream, of two, of a stream with a text for its fault, and of one that is written to a file.
use Rattle.std.specs.Prelude.{ℕ, ◌+◌, true, List, [], ◌∷◌, None, Some, codes}
use Rattle.chunk_core.specs.Elements.{Line}
use Rattle.chunk_core.specs.Outcomes.{Done, Outcomes}
use Rattle.chunk_core.specs.declared.code.Code.TheVariants as code
use Rattle.chunk_core.specs.declared.code.Exit.{Exit}
use Rattle.chunk_core.specs.declared.code.Exit.TheVariants.{Succeeded, Errored, Canceled}
use Rattle.chunk_core.specs.declared.code.How.TheVariants as how
use Rattle.res_ledger.specs.declared.event.StreamNo.{StreamNo}
use Rattle.res_ledger.specs.declared.event.StreamNo.TheVariants.{Outer, Inner}
use Rattle.res_ledger.specs.declared.event.What.{What}
use Rattle.res_ledger.specs.declared.event.What.TheVariants.{Open, Acquire, Lease, Cancel, Close, Final}
use Rattle.device_port.specs.Device.{DeviceTold, to_read, to_write}
use Rattle.pull_nodes.specs.Failures.{FileTells, TellsInTurn}
use Rattle.pull_nodes.specs.Runs.{Exactly, Follows, IsFault, IsUnwritten, OpensThen, OrLeft, Reads, ReadsWhole, Written, WrittenWhole}
use Rattle.pull_nodes.specs.declared.pipe.Pipe.TheVariants as pipe
use Rattle.run_rules.specs.Work.{RunRecord, Work}
use Rattle.run_laws.specs.Files.{file_work, path_a}
use Rattle.run_laws.specs.Streams.{InFile, Leaves, ThroughPipe, no_listing, opener, two_files}
use Rattle.run_laws.specs.Tables.{path_b, t_csv, table_bytes}
use Rattle.run_laws.specs.Written.{Listing, ends_of, frame, read_device, run_of, used_device}

-- No stream.

abbrev pub u_csv : List ℕ
u_csv = codes "u.csv"

abbrev pub no_streams : List (List ℕ) → Work
no_streams tables = record { opener = Some (opener tables 4 None); streams = []; runs = λ k v w ys e. ⊥; ideal_runs = λ k v w ys e. ⊥; listing = no_listing; ideal_listing = no_listing }

abbrev pub table_files : Listing
table_files = (t_csv, table_bytes) ∷ (u_csv, codes "k,w\n") ∷ []

-- two tables that nobody uses: the last acquired ends first
abbrev pub two_tables : RunRecord
two_tables = run_of table_files table_files (read_device 0 t_csv table_bytes Succeeded ∷ read_device 1 u_csv (codes "k,w\n") Succeeded ∷ []) (ends_of how.Done [])
    ((Outer, Acquire 0 0) ∷ (Outer, Acquire 1 0) ∷ (Outer, Close 0 Succeeded) ∷ (Outer, Final 1 Succeeded true) ∷ (Outer, Final 0 Succeeded true) ∷ []) []

abbrev pub two_tables_text : List ℕ
two_tables_text = codes "end outer done\nledger 5\nouter acquire 0 0\nouter acquire 1 0\nouter close 0 succeeded\nouter final 1 succeeded ok\nouter final 0 succeeded ok\n"

-- nothing is described
abbrev pub nothing_described : RunRecord
nothing_described = run_of [] [] [] (ends_of how.Done []) ((Outer, Close 0 Succeeded) ∷ []) []

abbrev pub nothing_described_text : List ℕ
nothing_described_text = codes "end outer done\nledger 1\nouter close 0 succeeded\n"

-- Two streams.

abbrev pub two_listing : Listing
two_listing = (t_csv, table_bytes) ∷ (path_a, codes "x\n") ∷ (path_b, codes "y\n") ∷ []

-- nothing may be printed, so nothing begins
abbrev pub silent_work : Work
silent_work = record (two_files (opener (t_csv ∷ []) 4 (Some 0)) None) { runs = λ k v w. InFile (w (k + 1)) (Reads (w (k + 1))); ideal_runs = λ k v w. ReadsWhole (w (k + 1)) }

abbrev pub silent : RunRecord
silent = run_of two_listing two_listing [] (ends_of how.Halted (how.Halted ∷ how.Halted ∷ [])) ((Outer, Close 0 Canceled) ∷ []) []

abbrev pub silent_text : List ℕ
silent_text = codes "end outer halted\nend 0 halted\nend 1 halted\nledger 1\nouter close 0 canceled\n"

-- the first stream's end stops the second one
abbrev pub stopped_work : Work
stopped_work = two_files (opener [] 1 None) (Some 0)

abbrev pub x_device : DeviceTold
x_device = read_device 0 path_a (codes "x\n") Succeeded

abbrev pub stopped : RunRecord
stopped = run_of two_listing two_listing (x_device ∷ []) (ends_of how.Done (how.Done ∷ how.Halted ∷ []))
    ((Outer, Lease 0 0) ∷ (Outer, Lease 1 0) ∷ (Inner 0, Acquire 0 0) ∷ (Inner 0, Close 0 Succeeded) ∷ (Inner 0, Final 0 Succeeded true) ∷ (Inner 0, Cancel 0 Succeeded) ∷ (Outer, Close 0 Succeeded) ∷ (Outer, Cancel 1 Canceled) ∷ [])
    (frame 0 (codes "x\n") ∷ [])

abbrev pub stopped_text : List ℕ
stopped_text = codes "0 2\nx\n\nend outer done\nend 0 done\nend 1 halted\nledger 8\nouter lease 0 0\nouter lease 1 0\n0 acquire 0 0\n0 close 0 succeeded\n0 final 0 succeeded ok\n0 cancel 0 succeeded\nouter close 0 succeeded\nouter cancel 1 canceled\n"

-- A text stands in for a fault.

abbrev pub Handles : Outcomes → Outcomes
Handles A = Leaves (Follows IsFault (Leaves (Leaves A)) (Leaves (Exactly (Line (codes "lost") ∷ []) Done)) (Unit {0}))

abbrev pub handled_work : Work
handled_work = record (file_work (λ d ys e. Handles (OpensThen d (Leaves (ThroughPipe (Leaves (Reads d)) pipe.Lines)) (Unit {0})) ys e × TellsInTurn IsFault (FileTells d) (λ g. Unit {0}) (Unit {0}) e)
    (λ d. Follows IsFault (ThroughPipe (ReadsWhole d) pipe.Lines) (Exactly (Line (codes "lost") ∷ []) Done) (Unit {0})))
    { streams = record { places = to_read path_a ∷ []; scopes = 1; until = None } ∷ [] }

-- the second read fails behind five bytes: the line that isn't whole doesn't come out, and the device is closed before the text
abbrev pub handled : RunRecord
handled = run_of ((path_a, codes "ab\ncd") ∷ []) ((path_a, codes "ab\ncd") ∷ []) (record (used_device 0 (to_read path_a) (codes "ab\ncd") Errored) { at = 5; read_faults = 1 } ∷ []) (ends_of how.Done (how.Done ∷ []))
    ((Outer, Lease 0 0) ∷ (Outer, Close 0 Succeeded) ∷ (Inner 0, Open 1 0) ∷ (Inner 0, Acquire 0 1) ∷ (Inner 0, Close 1 Errored) ∷ (Inner 0, Final 0 Errored true) ∷ (Inner 0, Close 0 Succeeded) ∷ (Inner 0, Cancel 0 Succeeded) ∷ [])
    (frame 0 (codes "ab\n") ∷ frame 0 (codes "lost\n") ∷ [])

abbrev pub handled_text : List ℕ
handled_text = codes "0 3\nab\n\n0 5\nlost\n\nend outer done\nend 0 done\nledger 8\nouter lease 0 0\nouter close 0 succeeded\n0 open 1 0\n0 acquire 0 1\n0 close 1 errored\n0 final 0 errored ok\n0 close 0 succeeded\n0 cancel 0 succeeded\n"

-- Written to a file.

abbrev pub hello : List ℕ
hello = codes "hello\n"

abbrev pub copy_work : Work
copy_work = record {
  opener = Some (opener [] 4 None);
  streams = record { places = to_write path_b ∷ to_read path_a ∷ []; scopes = 0; until = None } ∷ [];
  runs = λ k v w. OrLeft (IsUnwritten (w 0)) (OpensThen (w 0) (OrLeft (IsUnwritten (w 0)) (Written (w 0) (InFile (w 1) (Reads (w 1))))) (IsUnwritten (w 0)));
  ideal_runs = λ k v w. WrittenWhole (w 0) (ReadsWhole (w 1));
  listing = no_listing;
  ideal_listing = no_listing;
}

-- a stream of two rows: the one that was acquired first ends last
abbrev pub two_row_events : Exit → List (StreamNo × What)
two_row_events exit = (Outer, Lease 0 0) ∷ (Outer, Close 0 Succeeded) ∷ (Inner 0, Acquire 0 0) ∷ (Inner 0, Acquire 1 0) ∷ (Inner 0, Close 0 exit) ∷ (Inner 0, Final 1 exit true) ∷ (Inner 0, Final 0 exit true) ∷ (Inner 0, Cancel 0 exit) ∷ []

abbrev pub copied : RunRecord
copied = run_of ((path_a, hello) ∷ []) ((path_a, hello) ∷ (path_b, hello) ∷ []) (record (used_device 0 (to_write path_b) [] Succeeded) { written = Some hello } ∷ read_device 1 path_a hello Succeeded ∷ []) (ends_of how.Done (how.Done ∷ [])) (two_row_events Succeeded) []

abbrev pub copied_text : List ℕ
copied_text = codes "end outer done\nend 0 done\nledger 8\nouter lease 0 0\nouter close 0 succeeded\n0 acquire 0 0\n0 acquire 1 0\n0 close 0 succeeded\n0 final 1 succeeded ok\n0 final 0 succeeded ok\n0 cancel 0 succeeded\n"

-- its first write failed
abbrev pub uncopied : RunRecord
uncopied = run_of ((path_a, hello) ∷ []) ((path_a, hello) ∷ (path_b, []) ∷ []) (record (used_device 0 (to_write path_b) [] Errored) { write_faults = 1 } ∷ record (used_device 1 (to_read path_a) hello Errored) { at = 6 } ∷ []) (ends_of how.Done (how.Fault code.Write ∷ [])) (two_row_events Errored) []

abbrev pub uncopied_text : List ℕ
uncopied_text = codes "end outer done\nend 0 fault write\nledger 8\nouter lease 0 0\nouter close 0 succeeded\n0 acquire 0 0\n0 acquire 1 0\n0 close 0 errored\n0 final 1 errored ok\n0 final 0 errored ok\n0 cancel 0 errored\n"
