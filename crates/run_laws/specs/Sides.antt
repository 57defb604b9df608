-- Runs of one stream over the lines of two files: in pairs, and as a merge.
use Rattle.std.specs.Prelude.{ℕ, Bool, true, false, List, [], ◌∷◌, None, Some, codes}
use Rattle.chunk_core.specs.Outcomes.{Outcomes}
use Rattle.chunk_core.specs.Texts.{Frame}
use Rattle.chunk_core.specs.declared.code.Exit.TheVariants.{Succeeded}
use Rattle.chunk_core.specs.declared.code.How.TheVariants as how
use Rattle.device_port.specs.Device.{DeviceTold, to_read}
use Rattle.pull_nodes.specs.Runs.{Merged, Reads, ReadsWhole, Zipped}
use Rattle.pull_nodes.specs.declared.pipe.Pipe.TheVariants as pipe
use Rattle.run_rules.specs.Work.{RunRecord, Work}
use Rattle.run_laws.specs.Others.{two_row_events}
use Rattle.run_laws.specs.Streams.{InFile, Leaves, ThroughPipe, no_listing, opener}
use Rattle.run_laws.specs.Written.{ends_of, frame, read_device, run_of}

abbrev pub path_p : List ℕ
path_p = codes "p"

abbrev pub path_q : List ℕ
path_q = codes "q"

-- the lines of a file, which may be left at any time
abbrev pub LinesIn : DeviceTold → Outcomes
LinesIn d = InFile d (ThroughPipe (Leaves (Reads d)) pipe.Lines)

-- the lines of a whole file
abbrev pub WholeLines : DeviceTold → Outcomes
WholeLines d = ThroughPipe (ReadsWhole d) pipe.Lines

-- one stream of two files, and what it may give
abbrev pub sides_work : (DeviceTold → DeviceTold → Outcomes) → (DeviceTold → DeviceTold → Outcomes) → Work
sides_work runs ideal = record {
  opener = Some (opener [] 4 None);
  streams = record { places = to_read path_p ∷ to_read path_q ∷ []; scopes = 0; until = None } ∷ [];
  runs = λ k v w. runs (w 0) (w 1);
  ideal_runs = λ k v w. ideal (w 0) (w 1);
  listing = no_listing;
  ideal_listing = no_listing;
}

-- a run of two files with these bytes, of which the second was read to its end, and the first too or not
abbrev pub sides_run : List ℕ → Bool → List ℕ → List Frame → RunRecord
sides_run p_bytes ended q_bytes frames =
    run_of ((path_p, p_bytes) ∷ (path_q, q_bytes) ∷ []) ((path_p, p_bytes) ∷ (path_q, q_bytes) ∷ []) (record (read_device 0 path_p p_bytes Succeeded) { ended = ended } ∷ read_device 1 path_q q_bytes Succeeded ∷ [])
    (ends_of how.Done (how.Done ∷ [])) (two_row_events Succeeded) frames

-- In pairs.

abbrev pub three_lines : List ℕ
three_lines = codes "a\nb\nc\n"

abbrev pub two_lines : List ℕ
two_lines = codes "1\n2\n"

-- the lines of two files in pairs, which may be left at any time
abbrev pub PairsIn : DeviceTold → DeviceTold → Outcomes
PairsIn p q = Leaves (Zipped (LinesIn p) (LinesIn q))

-- those of two whole files
abbrev pub WholePairs : DeviceTold → DeviceTold → Outcomes
WholePairs p q = Zipped (WholeLines p) (WholeLines q)

abbrev pub pairs_work : Work
pairs_work = sides_work PairsIn WholePairs

-- the third line has no partner
abbrev pub paired : RunRecord
paired = sides_run three_lines false two_lines (frame 0 (codes "a,1\nb,2\n") ∷ [])

abbrev pub paired_text : List ℕ
paired_text = codes "0 8\na,1\nb,2\n\nend outer done\nend 0 done\nledger 8\nouter lease 0 0\nouter close 0 succeeded\n0 acquire 0 0\n0 acquire 1 0\n0 close 0 succeeded\n0 final 1 succeeded ok\n0 final 0 succeeded ok\n0 cancel 0 succeeded\n"

-- As a merge.

-- the lines of two files in any order that keeps that of each file, which may be left at any time
abbrev pub MergeIn : DeviceTold → DeviceTold → Outcomes
MergeIn p q = Leaves (Merged (LinesIn p) (Unit {0}) (LinesIn q) (Unit {0}))

-- those of two whole files
abbrev pub WholeMerge : DeviceTold → DeviceTold → Outcomes
WholeMerge p q = Merged (WholeLines p) (Unit {0}) (WholeLines q) (Unit {0})

abbrev pub merge_work : Work
merge_work = sides_work MergeIn WholeMerge

-- the line of the first file comes first
abbrev pub merged : RunRecord
merged = sides_run (codes "x\n") true (codes "y\n") (frame 0 (codes "x\n") ∷ frame 0 (codes "y\n") ∷ [])

abbrev pub merged_text : List ℕ
merged_text = codes "0 2\nx\n\n0 2\ny\n\nend outer done\nend 0 done\nledger 8\nouter lease 0 0\nouter close 0 succeeded\n0 acquire 0 0\n0 acquire 1 0\n0 close 0 succeeded\n0 final 1 succeeded ok\n0 final 0 succeeded ok\n0 cancel 0 succeeded\n"

-- the line of the second file comes first
abbrev pub merged_back : RunRecord
merged_back = sides_run (codes "x\n") true (codes "y\n") (frame 0 (codes "y\n") ∷ frame 0 (codes "x\n") ∷ [])

abbrev pub merged_back_text : List ℕ
merged_back_text = codes "0 2\ny\n\n0 2\nx\n\nend outer done\nend 0 done\nledger 8\nouter lease 0 0\nouter close 0 succeeded\n0 acquire 0 0\n0 acquire 1 0\n0 close 0 succeeded\n0 final 1 succeeded ok\n0 final 0 succeeded ok\n0 cancel 0 succeeded\n"
