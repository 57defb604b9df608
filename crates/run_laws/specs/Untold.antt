-- Runs in which an act on a device failed, and that end as if it hadn't.
use Rattle.std.specs.Prelude.{ℕ, true, false, [], ◌∷◌, codes}
use Rattle.chunk_core.specs.Outcomes.{Outcomes, exit_of}
use Rattle.chunk_core.specs.declared.code.Exit.TheVariants.{Succeeded, Canceled}
use Rattle.chunk_core.specs.declared.code.How.{How}
use Rattle.chunk_core.specs.declared.code.How.TheVariants as how
use Rattle.device_port.specs.Device.{DeviceTold}
use Rattle.res_ledger.specs.declared.event.StreamNo.TheVariants.{Outer, Inner}
use Rattle.res_ledger.specs.declared.event.What.TheVariants.{Lease, Cancel, Close}
use Rattle.pull_nodes.specs.Failures.{FileTells}
use Rattle.pull_nodes.specs.Runs.{Reads, ReadsWhole, Taken}
use Rattle.pull_nodes.specs.declared.pipe.Pipe.TheVariants as pipe
use Rattle.run_rules.specs.Run.{Performs}
use Rattle.run_rules.specs.Work.{RunRecord, Work}
use Rattle.run_laws.specs.Files.{file_device, file_events, file_work, path_a}
use Rattle.run_laws.specs.OneStream.{x_listing}
use Rattle.run_laws.specs.Streams.{InFile, Leaves, ThroughPipe}
use Rattle.run_laws.specs.Written.{ends_of, frame, missing_device, run_of}

-- one file, over which A runs, and whose end tells of what failed
abbrev pub telling_work : (DeviceTold → Outcomes) → Work
telling_work A = file_work (λ d ys e. A d ys e × FileTells d e) ReadsWhole

-- as it is
abbrev pub read_work : Work
read_work = telling_work (λ d. InFile d (Reads d))

-- its first two lines
abbrev pub taken_work : Work
taken_work = telling_work (λ d. InFile d (Taken 2 (Leaves (ThroughPipe (Leaves (Reads d)) pipe.Lines))))

-- a device that was opened, of which so many reads failed, and whose stream ended so
abbrev pub unread_device : ℕ → How → DeviceTold
unread_device n h = record (file_device (codes "x\n") 0 false h) { read_faults = n }

-- a device that was read to its last byte, and then a read failed
abbrev pub cut_off_device : DeviceTold
cut_off_device = record (file_device (codes "a\nb\n") 4 false how.Done) { read_faults = 1 }

-- the file was opened, so many reads of it failed, and its stream ended so
abbrev pub unread : ℕ → How → RunRecord
unread n h = run_of x_listing x_listing (unread_device n h ∷ []) (ends_of how.Done (h ∷ [])) (file_events (exit_of h)) []

-- its one read failed, and the stream is said to have found no memory
abbrev pub failed_read_told_as_memory : RunRecord
failed_read_told_as_memory = record (unread 1 how.Memory) { memory = true }

-- it was read again behind a read that failed
abbrev pub read_again_behind_a_failure : RunRecord
read_again_behind_a_failure = record (unread 2 how.Memory) { memory = true }

-- it isn't there, and the stream is said to have found no memory
abbrev pub failed_open_told_as_memory : RunRecord
failed_open_told_as_memory = record (run_of [] [] (missing_device 0 path_a ∷ []) (ends_of how.Done (how.Memory ∷ []))
    ((Outer, Lease 0 0) ∷ (Outer, Close 0 Succeeded) ∷ (Inner 0, Close 0 Canceled) ∷ (Inner 0, Cancel 0 Canceled) ∷ []) []) { memory = true }

-- its two lines were printed, it was read on, that read failed, and the stream is done
abbrev pub taker_reads_on : RunRecord
taker_reads_on = run_of ((path_a, codes "a\nb\n") ∷ []) ((path_a, codes "a\nb\n") ∷ []) (cut_off_device ∷ []) (ends_of how.Done (how.Done ∷ [])) (file_events Succeeded) (frame 0 (codes "a\nb\n") ∷ [])

-- none of these did its work
pub record AreUntold : Type 0 where
  pub memory : ¬ (Performs read_work failed_read_told_as_memory)
  pub again : ¬ (Performs read_work read_again_behind_a_failure)
  pub opening : ¬ (Performs read_work failed_open_told_as_memory)
  pub reads_on : ¬ (Performs taken_work taker_reads_on)
