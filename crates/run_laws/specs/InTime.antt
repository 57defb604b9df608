-- Streams that are open at once, and halted for what comes later.
use Rattle.std.specs.Prelude.{ℕ, true, List, [], ◌∷◌, ◌++◌, None, Some, codes}
use Rattle.std.specs.List.{AllByRecursion}
use Rattle.chunk_core.specs.declared.code.Code.TheVariants as code
use Rattle.chunk_core.specs.declared.code.Exit.TheVariants.{Succeeded, Errored, Canceled}
use Rattle.chunk_core.specs.declared.code.How.TheVariants as how
use Rattle.res_ledger.specs.declared.event.StreamNo.{StreamNo}
use Rattle.res_ledger.specs.declared.event.StreamNo.TheVariants.{Outer, Inner}
use Rattle.res_ledger.specs.declared.event.What.{What}
use Rattle.res_ledger.specs.declared.event.What.TheVariants.{Acquire, Lease, Cancel, Close, Final}
use Rattle.device_port.specs.Device.{to_read}
use Rattle.run_rules.specs.Ends.{EndIsCaused}
use Rattle.run_rules.specs.Work.{RunRecord, Work}
use Rattle.run_laws.specs.Files.{path_a}
use Rattle.run_laws.specs.FiveFiles.{visit}
use Rattle.run_laws.specs.Others.{two_listing}
use Rattle.run_laws.specs.Streams.{file_stream, opener, two_files}
use Rattle.run_laws.specs.Tables.{path_b}
use Rattle.run_laws.specs.Written.{Listing, ends_of, frame, missing_device, read_device, run_of, used_device}

-- what a stream notes that fails
abbrev pub fails : ℕ → List (StreamNo × What)
fails k = (Inner k, Close 0 Errored) ∷ (Inner k, Cancel k Errored) ∷ []

-- and one that is halted
abbrev pub halts : ℕ → List (StreamNo × What)
halts k = (Inner k, Acquire k 0) ∷ (Inner k, Close 0 Canceled) ∷ (Inner k, Final k Canceled true) ∷ (Inner k, Cancel k Canceled) ∷ []

-- two files side by side
abbrev pub side_by_side_work : Work
side_by_side_work = two_files (opener [] 4 None) None

-- Runs.

-- the second file isn't there
abbrev pub first_listing : Listing
first_listing = (path_a, codes "x\n") ∷ []

abbrev pub given_both : List (StreamNo × What)
given_both = (Outer, Lease 0 0) ∷ (Outer, Lease 1 0) ∷ (Outer, Close 0 Succeeded) ∷ []

-- the first stream is halted, and the second one failed, in this ledger
abbrev pub failing_beside : List (StreamNo × What) → RunRecord
failing_beside events = run_of first_listing first_listing (used_device 0 (to_read path_a) (codes "x\n") Canceled ∷ missing_device 1 path_b ∷ []) (ends_of how.Done (how.Halted ∷ how.Fault code.Open ∷ [])) events []

-- it closed its root, told that it was halted, and only then the second one failed
abbrev pub halted_before_the_fault : RunRecord
halted_before_the_fault = failing_beside (given_both ++ (halts 0 ++ fails 1))

abbrev pub halted_behind_the_fault : RunRecord
halted_behind_the_fault = failing_beside (given_both ++ ((Inner 0, Acquire 0 0) ∷ (Inner 1, Close 0 Errored) ∷ (Inner 0, Close 0 Canceled) ∷ (Inner 0, Final 0 Canceled true) ∷ (Inner 0, Cancel 0 Canceled) ∷ (Inner 1, Cancel 1 Errored) ∷ []))

-- the outer stream is halted, and the first one failed, in this ledger; the second isn't begun
abbrev pub failing_below : List (StreamNo × What) → RunRecord
failing_below events = run_of [] [] (missing_device 0 path_a ∷ []) (ends_of how.Halted (how.Fault code.Open ∷ how.Halted ∷ [])) ((Outer, Lease 0 0) ∷ (Outer, Lease 1 0) ∷ events) []

-- the outer stream closed its root, told that it was halted, and only then the first one failed
abbrev pub outer_halted_before_the_fault : RunRecord
outer_halted_before_the_fault = failing_below ((Outer, Close 0 Canceled) ∷ (Outer, Cancel 1 Canceled) ∷ fails 0)

abbrev pub outer_halted_behind_the_fault : RunRecord
outer_halted_behind_the_fault = failing_below ((Inner 0, Close 0 Errored) ∷ (Outer, Close 0 Canceled) ∷ (Outer, Cancel 1 Canceled) ∷ (Inner 0, Cancel 0 Errored) ∷ [])

-- the first stream is to end with the second
abbrev pub until_beside_work : Work
until_beside_work = record side_by_side_work { streams = record (file_stream path_a) { until = Some 1 } ∷ file_stream path_b ∷ [] }

-- the first stream is halted, and the second one ended, in this ledger
abbrev pub ending_beside : List (StreamNo × What) → RunRecord
ending_beside events = run_of two_listing two_listing (used_device 0 (to_read path_a) (codes "x\n") Canceled ∷ read_device 1 path_b (codes "y\n") Succeeded ∷ []) (ends_of how.Done (how.Halted ∷ how.Done ∷ [])) events (frame 1 (codes "y\n") ∷ [])

-- it closed its root, told that it was halted, and only then the second one ended
abbrev pub halted_before_the_end : RunRecord
halted_before_the_end = ending_beside (given_both ++ (halts 0 ++ visit 1))

abbrev pub halted_behind_the_end : RunRecord
halted_behind_the_end = ending_beside (given_both ++ (visit 1 ++ halts 0))

-- the ends of this run come by their causes
abbrev pub AreCaused : Work → RunRecord → Type 0
AreCaused work c = AllByRecursion (EndIsCaused work c) c.ends

-- with the other order each end of these runs comes by its cause
pub record AreCausedInTime : Type 0 where
  pub fault : AreCaused side_by_side_work halted_behind_the_fault
  pub outer_fault : AreCaused side_by_side_work outer_halted_behind_the_fault
  pub end : AreCaused until_beside_work halted_behind_the_end
