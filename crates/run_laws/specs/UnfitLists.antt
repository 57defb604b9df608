-- Runs over the lines of a list that no user would accept, whichever lines are said to have been given streams.
use Rattle.std.specs.Prelude.{ℕ, true, List, [], ◌∷◌, ◌++◌, codes}
use Rattle.chunk_core.specs.declared.code.Code.TheVariants as code
use Rattle.chunk_core.specs.declared.code.Exit.TheVariants.{Succeeded, Canceled}
use Rattle.chunk_core.specs.declared.code.How.TheVariants as how
use Rattle.res_ledger.specs.declared.event.StreamNo.TheVariants.{Outer, Inner}
use Rattle.res_ledger.specs.declared.event.What.TheVariants.{Open, Acquire, Lease, Cancel, Close, Final}
use Rattle.device_port.specs.Device.{DeviceTold, to_read}
use Rattle.run_rules.specs.Run.{Performs}
use Rattle.run_rules.specs.Work.{RunRecord, Work}
use Rattle.run_laws.specs.Files.{path_a}
use Rattle.run_laws.specs.Lists.{bad_bytes, bad_device, bad_events, bad_line, list_bytes, list_events, list_files, list_work, listed_visit, lister, listing_work, one_line_work, one_too_many, path_l, two_listed}
use Rattle.run_laws.specs.Tables.{t_csv, table_bytes}
use Rattle.run_laws.specs.Unacceptable.{half_table}
use Rattle.run_laws.specs.Written.{ends_of, frame, read_device, run_of, used_device}

-- the second stream reads the file of the line before its own
abbrev pub line_before : RunRecord
line_before = run_of (list_files list_bytes) (list_files list_bytes) (read_device 0 path_l list_bytes Succeeded ∷ read_device 1 path_a (codes "x\n") Succeeded ∷ read_device 2 path_a (codes "x\n") Succeeded ∷ []) (ends_of how.Done (how.Done ∷ how.Done ∷ []))
    list_events (frame 0 (codes "x\n") ∷ frame 1 (codes "x\n") ∷ [])

-- the list is done, and its last line was given no stream
abbrev pub line_left : RunRecord
line_left = run_of (list_files list_bytes) (list_files list_bytes) (read_device 0 path_l list_bytes Succeeded ∷ read_device 1 path_a (codes "x\n") Succeeded ∷ []) (ends_of how.Done (how.Done ∷ []))
    ((Outer, Open 1 0) ∷ (Outer, Acquire 0 1) ∷ (Outer, Lease 0 1) ∷ (Outer, Close 1 Succeeded) ∷ (Outer, Close 0 Succeeded) ∷ (listed_visit 0 ++ (Inner 0, Final 0 Succeeded true) ∷ [])) (frame 0 (codes "x\n") ∷ [])

-- an empty line is given a stream
abbrev pub empty_line_given : RunRecord
empty_line_given = run_of ((path_l, bad_bytes) ∷ (path_a, codes "x\n") ∷ ([], codes "y\n") ∷ []) ((path_l, bad_bytes) ∷ (path_a, codes "x\n") ∷ ([], codes "y\n") ∷ []) (read_device 0 path_l bad_bytes Succeeded ∷ read_device 1 path_a (codes "x\n") Succeeded ∷ read_device 2 [] (codes "y\n") Succeeded ∷ [])
    (ends_of how.Done (how.Done ∷ how.Done ∷ [])) list_events (frame 0 (codes "x\n") ∷ frame 1 (codes "y\n") ∷ [])

-- Lists that are left, since the outer stream found no memory.

abbrev pub three_line_bytes : List ℕ
three_line_bytes = codes "a\nb\nc\n"

-- a line is read at a time
abbrev pub line_by_line_work : List (List ℕ) → Work
line_by_line_work lines = listing_work [] (lister 2 64 lines)

-- one line was given a stream, and all three were read
abbrev pub read_too_far : RunRecord
read_too_far = record (run_of (list_files three_line_bytes) (list_files three_line_bytes) (record (used_device 0 (to_read path_l) three_line_bytes Canceled) { at = 6 } ∷ []) (ends_of how.Memory (how.Halted ∷ []))
    ((Outer, Open 1 0) ∷ (Outer, Acquire 0 1) ∷ (Outer, Lease 0 1) ∷ (Outer, Close 0 Canceled) ∷ (Outer, Cancel 0 Canceled) ∷ (Outer, Final 0 Canceled true) ∷ []) []) { memory = true }

-- the list could not be read, which isn't told
abbrev pub unread_list : DeviceTold
unread_list = record (used_device 0 (to_read path_l) list_bytes Canceled) { read_faults = 1 }

abbrev pub fault_not_told : RunRecord
fault_not_told = record (run_of (list_files list_bytes) (list_files list_bytes) (unread_list ∷ []) (ends_of how.Memory []) ((Outer, Open 1 0) ∷ (Outer, Acquire 0 1) ∷ (Outer, Close 0 Canceled) ∷ (Outer, Final 0 Canceled true) ∷ []) []) { memory = true }

-- a read of the list failed, and what is told is its bad line
abbrev pub cut_off_list : DeviceTold
cut_off_list = record bad_device { read_faults = 1 }

abbrev pub line_told : RunRecord
line_told = run_of (list_files bad_bytes) (list_files bad_bytes) (cut_off_list ∷ []) (ends_of (how.Fault code.BadPath) (how.Halted ∷ [])) bad_events []

-- a table before the list
abbrev pub table_and_list_work : List (List ℕ) → Work
table_and_list_work lines = listing_work (t_csv ∷ []) (lister 4096 64 lines)

-- the table was read in part, and the list was opened all the same
abbrev pub opened_too_early : RunRecord
opened_too_early = record (run_of ((t_csv, table_bytes) ∷ list_files list_bytes) ((t_csv, table_bytes) ∷ list_files list_bytes) (half_table ∷ used_device 1 (to_read path_l) list_bytes Canceled ∷ []) (ends_of how.Memory [])
    ((Outer, Acquire 0 0) ∷ (Outer, Open 1 0) ∷ (Outer, Acquire 1 1) ∷ (Outer, Close 0 Canceled) ∷ (Outer, Final 1 Canceled true) ∷ (Outer, Final 0 Canceled true) ∷ []) []) { memory = true }

-- none of these did its work
pub record AreUnfitLists : Type 0 where
  pub before : (lines : List (List ℕ)) → ¬ (Performs (list_work lines) line_before)
  pub left : (lines : List (List ℕ)) → ¬ (Performs (list_work lines) line_left)
  pub empty : (lines : List (List ℕ)) → ¬ (Performs (list_work lines) empty_line_given)
  pub too_far : (lines : List (List ℕ)) → ¬ (Performs (line_by_line_work lines) read_too_far)
  pub not_told : (lines : List (List ℕ)) → ¬ (Performs (list_work lines) fault_not_told)
  pub instead : (lines : List (List ℕ)) → ¬ (Performs (list_work lines) line_told)
  pub too_early : (lines : List (List ℕ)) → ¬ (Performs (table_and_list_work lines) opened_too_early)
  -- more lines than may be given streams
  pub more : (lines : List (List ℕ)) → ¬ (Performs (one_line_work lines) two_listed)
  -- that the next line is empty is told before that it is one too many
  pub bad_first : (lines : List (List ℕ)) → ¬ (Performs (one_line_work lines) bad_line)
  -- that there are too many is told where more may be given
  pub not_many : (lines : List (List ℕ)) → ¬ (Performs (list_work lines) one_too_many)
