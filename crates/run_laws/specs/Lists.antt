-- Runs of streams whose paths are the lines of a list.
use Rattle.std.specs.Prelude.{ℕ, ◌+◌, Bool, true, ◌||◌, nat_eq, nat_lt, List, [], ◌∷◌, ◌++◌, map, length, None, Some, codes}
use Rattle.chunk_core.specs.Elements.{Byte}
use Rattle.chunk_core.specs.Outcomes.{Outcomes}
use Rattle.chunk_core.specs.Tables.{no_values}
use Rattle.chunk_core.specs.declared.code.Code.{Code}
use Rattle.chunk_core.specs.declared.code.Code.TheVariants as code
use Rattle.chunk_core.specs.declared.code.Exit.TheVariants.{Succeeded, Errored, Canceled}
use Rattle.chunk_core.specs.declared.code.How.TheVariants as how
use Rattle.res_ledger.specs.declared.event.StreamNo.{StreamNo}
use Rattle.res_ledger.specs.declared.event.StreamNo.TheVariants.{Outer, Inner}
use Rattle.res_ledger.specs.declared.event.What.{What}
use Rattle.res_ledger.specs.declared.event.What.TheVariants.{Open, Acquire, Lease, Cancel, Close, Final}
use Rattle.device_port.specs.Device.{DeviceTold, to_read}
use Rattle.pull_nodes.specs.Pipes.{part_of}
use Rattle.pull_nodes.specs.Runs.{Reads, ReadsWhole}
use Rattle.pull_nodes.specs.declared.pipe.Pipe.TheVariants as pipe
use Rattle.run_rules.specs.Work.{Lister, Opener, RunRecord, Work}
use Rattle.run_laws.specs.Files.{path_a}
use Rattle.run_laws.specs.Streams.{InFile, ThroughPipes, ThroughWhole, file_stream, opener}
use Rattle.run_laws.specs.Tables.{path_b}
use Rattle.run_laws.specs.Written.{Listing, ends_of, frame, read_device, run_of, used_device}

abbrev pub path_l : List ℕ
path_l = codes "l"

-- the lines of a list that is read
abbrev pub ListRuns : DeviceTold → Outcomes
ListRuns d = InFile d (ThroughPipes (Reads d) (pipe.Utf8 ∷ pipe.Lines ∷ []))

abbrev pub IdealListRuns : DeviceTold → Outcomes
IdealListRuns d = ThroughWhole (ReadsWhole d) (pipe.Utf8 ∷ pipe.Lines ∷ [])

-- how many lines have ended in these bytes
abbrev pub ended_lines_in : List ℕ → ℕ
ended_lines_in bytes = length (part_of no_values pipe.Lines (part_of no_values pipe.Utf8 (map Byte bytes)).list).list

-- a line that is no path: it is empty or too long, and no stream here writes
abbrev pub is_no_path : List ℕ → Bool
is_no_path line = nat_eq (length line) 0 || nat_lt 1024 (length line)

-- a list that is read in pieces, of which so many lines are given streams at most, and these were
abbrev pub lister : ℕ → ℕ → List (List ℕ) → Lister
lister piece most lines = record { place = to_read path_l; lines = lines; most = most; is_bad = is_no_path; piece = piece; ended_in = ended_lines_in }

-- these tables, and such a list, one stream being open at a time
abbrev pub listing_opener : List (List ℕ) → Lister → Opener
listing_opener tables l = record (opener tables 1 None) { list = Some l }

-- the files of the lines as they are, behind so many tables and the list
abbrev pub listing_work : List (List ℕ) → Lister → Work
listing_work tables l = record {
  opener = Some (listing_opener tables l);
  streams = map file_stream l.lines;
  runs = λ k v w. InFile (w (length tables + 1 + k)) (Reads (w (length tables + 1 + k)));
  ideal_runs = λ k v w. ReadsWhole (w (length tables + 1 + k));
  listing = ListRuns;
  ideal_listing = IdealListRuns;
}

-- no table, and a list of at most 64 lines
abbrev pub list_work : List (List ℕ) → Work
list_work lines = listing_work [] (lister 4096 64 lines)

-- Two lines.

abbrev pub list_bytes : List ℕ
list_bytes = codes "a\nb\n"

-- the list with these bytes, and the files of its lines
abbrev pub list_files : List ℕ → Listing
list_files bytes = (path_l, bytes) ∷ (path_a, codes "x\n") ∷ (path_b, codes "y\n") ∷ []

abbrev pub list_devices : List DeviceTold
list_devices = read_device 0 path_l list_bytes Succeeded ∷ read_device 1 path_a (codes "x\n") Succeeded ∷ read_device 2 path_b (codes "y\n") Succeeded ∷ []

-- stream k, whose row is the one behind k and that of the list
abbrev pub listed_visit : ℕ → List (StreamNo × What)
listed_visit k = (Inner k, Acquire (1 + k) 0) ∷ (Inner k, Close 0 Succeeded) ∷ (Inner k, Final (1 + k) Succeeded true) ∷ (Inner k, Cancel k Succeeded) ∷ []

abbrev pub list_events : List (StreamNo × What)
list_events =
    (Outer, Open 1 0) ∷ (Outer, Acquire 0 1) ∷ (Outer, Lease 0 1) ∷ (Outer, Lease 1 1) ∷ (listed_visit 0 ++ ((Outer, Close 1 Succeeded) ∷ (Outer, Close 0 Succeeded) ∷ (listed_visit 1 ++ (Inner 1, Final 0 Succeeded true) ∷ [])))

abbrev pub two_listed : RunRecord
two_listed = run_of (list_files list_bytes) (list_files list_bytes) list_devices (ends_of how.Done (how.Done ∷ how.Done ∷ [])) list_events (frame 0 (codes "x\n") ∷ frame 1 (codes "y\n") ∷ [])

abbrev pub two_listed_text : List ℕ
two_listed_text =
    codes "0 2\nx\n\n1 2\ny\n\nend outer done\nend 0 done\nend 1 done\nledger 15\nouter open 1 0\nouter acquire 0 1\nouter lease 0 1\nouter lease 1 1\n0 acquire 1 0\n0 close 0 succeeded\n0 final 1 succeeded ok\n0 cancel 0 succeeded\nouter close 1 succeeded\nouter close 0 succeeded\n1 acquire 2 0\n1 close 0 succeeded\n1 final 2 succeeded ok\n1 cancel 1 succeeded\n1 final 0 succeeded ok\n"

-- A list whose second line is empty: no stream begins.

abbrev pub bad_bytes : List ℕ
bad_bytes = codes "a\n\n"

abbrev pub bad_device : DeviceTold
bad_device = record (used_device 0 (to_read path_l) bad_bytes Canceled) { at = 3 }

abbrev pub bad_events : List (StreamNo × What)
bad_events = (Outer, Open 1 0) ∷ (Outer, Acquire 0 1) ∷ (Outer, Lease 0 1) ∷ (Outer, Close 0 Errored) ∷ (Outer, Cancel 0 Canceled) ∷ (Outer, Final 0 Canceled true) ∷ []

-- the second line fails so
abbrev pub bad_run : Code → RunRecord
bad_run c = run_of (list_files bad_bytes) (list_files bad_bytes) (bad_device ∷ []) (ends_of (how.Fault c) (how.Halted ∷ [])) bad_events []

abbrev pub bad_line : RunRecord
bad_line = bad_run code.BadPath

abbrev pub bad_line_text : List ℕ
bad_line_text = codes "end outer fault badpath\nend 0 halted\nledger 6\nouter open 1 0\nouter acquire 0 1\nouter lease 0 1\nouter close 0 errored\nouter cancel 0 canceled\nouter final 0 canceled ok\n"

-- only one line may be given a stream, and that there is another one goes before that it is empty
abbrev pub one_line_work : List (List ℕ) → Work
one_line_work lines = listing_work [] (lister 4096 1 lines)

abbrev pub one_too_many : RunRecord
one_too_many = bad_run code.TooMany

abbrev pub one_too_many_text : List ℕ
one_too_many_text = codes "end outer fault toomany\nend 0 halted\nledger 6\nouter open 1 0\nouter acquire 0 1\nouter lease 0 1\nouter close 0 errored\nouter cancel 0 canceled\nouter final 0 canceled ok\n"
