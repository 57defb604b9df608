-- Runs that are written out.
use Rattle.std.specs.Prelude.{ℕ, true, false, List, [], ◌∷◌, codes, Some, None, if◌then◌else◌}
use Rattle.std.specs.Str.{bytes_eq}
use Rattle.chunk_core.specs.Texts.{Frame}
use Rattle.chunk_core.specs.declared.code.Code.TheVariants as code
use Rattle.chunk_core.specs.declared.code.Exit.{Exit}
use Rattle.chunk_core.specs.declared.code.Exit.TheVariants.{Errored, Succeeded}
use Rattle.chunk_core.specs.declared.code.How.{How}
use Rattle.chunk_core.specs.declared.code.How.TheVariants as how
use Rattle.device_port.specs.Device.{DeviceTold, to_read}
use Rattle.device_port.specs.Depot.{DepotTold, Files}
use Rattle.pull_nodes.specs.declared.pipe.Pipe.TheVariants as pipe
use Rattle.pipeline_desc.specs.declared.step.Step.{Step}
use Rattle.pipeline_desc.specs.declared.step.Step.TheVariants as step
use Rattle.res_ledger.specs.declared.event.StreamNo.TheVariants.{Outer, Inner}
use Rattle.res_ledger.specs.declared.event.What.TheVariants.{Acquire, Close, Final}
use Rattle.res_ledger.specs.declared.event.Event.{Event}
use Rattle.res_ledger.specs.Ledger.{stamped}
use Rattle.run_rules.specs.declared.end.EndOf.{EndOf}
use Rattle.run_rules.specs.Work.{RunRecord}

abbrev pub path_a : List ℕ
path_a = codes "a"

-- two lines
abbrev pub two_lines : List ℕ
two_lines = codes "ab\ncd\n"

-- the one file
abbrev pub file_a : Files
file_a path = if bytes_eq path_a path then Some two_lines else None

-- lines are counted in one branch, and those with a d come out of the other
abbrev pub counting : List Step
counting = step.Pipe pipe.Lines ∷ step.Pipe pipe.Count ∷ []

abbrev pub filtering : List Step
filtering = step.Pipe pipe.Utf8 ∷ step.Pipe pipe.Lines ∷ step.Pipe (pipe.Filter (codes "d")) ∷ []

abbrev pub counted_and_filtered : List (List Step)
counted_and_filtered = counting ∷ filtering ∷ []

-- its device was opened, read to its end and closed
abbrev pub device_a : DeviceTold
device_a = record {
  number = 0;
  place = to_read path_a;
  present = Some true;
  content = Some two_lines;
  at = 6;
  ended = true;
  written = Some [];
  is_open = false;
  opens = 1;
  closes = 1;
  exit = Some Succeeded;
  open_faults = 0;
  read_faults = 0;
  write_faults = 0;
  close_faults = 0;
}

-- what the outer stream notes that was told this exit
abbrev pub events_with : Exit → List Event
events_with x = stamped 0 ((Outer, Acquire 0 0) ∷ (Outer, Close 0 x) ∷ (Outer, Final 0 x true) ∷ [])

-- how the outer stream and the two branches ended
abbrev pub ending : How → How → How → List EndOf
ending o i j = record { who = Outer; how = o } ∷ record { who = Inner 0; how = i } ∷ record { who = Inner 1; how = j } ∷ []

abbrev pub depot_before : DepotTold
depot_before = record { files = Some file_a; made = []; retired = [] }

abbrev pub depot_after : DeviceTold → DepotTold
depot_after d = record { files = Some file_a; made = to_read path_a ∷ []; retired = d ∷ [] }

abbrev pub count_frame : Frame
count_frame = record { stream = 0; payload = codes "2\n" }

abbrev pub line_frame : Frame
line_frame = record { stream = 1; payload = codes "cd\n" }

-- a run with this device, which left this
abbrev pub run_of : DeviceTold → List Event → List EndOf → List Frame → RunRecord
run_of d events ends frames = record { depot_old = depot_before; depot_new = depot_after d; ends = ends; events = events; frames = frames; cut = None; rest = []; memory = false }

-- a run that printed these frames, with all ends as they should be
abbrev pub run_with : List Frame → RunRecord
run_with frames = run_of device_a (events_with Succeeded) (ending how.Done how.Done how.Done) frames

-- the write of the second branch's frame failed, behind the first one's
abbrev pub broken_with : List EndOf → RunRecord
broken_with ends = record (run_of device_a (events_with Succeeded) ends (count_frame ∷ [])) { cut = Some line_frame; rest = codes "1 3\nc" }

-- Runs as they may be.

-- the branches print in any order
abbrev pub counted_first : RunRecord
counted_first = run_with (count_frame ∷ line_frame ∷ [])

abbrev pub counted_last : RunRecord
counted_last = run_with (line_frame ∷ count_frame ∷ [])

-- the file couldn't be opened
abbrev pub not_opened : RunRecord
not_opened =
    run_of (record device_a { at = 0; ended = false; opens = 0; closes = 0; exit = None; open_faults = 1 })
    (stamped 0 ((Outer, Close 0 Errored) ∷ []))
    (ending (how.Fault code.Open) how.Halted how.Halted)
    []

-- a write failed, and the branch was halted
abbrev pub broken : RunRecord
broken = broken_with (ending how.Done how.Done how.Halted)

-- Runs as none may be.

-- a branch under the number of the other one
abbrev pub swapped : RunRecord
swapped = run_with (record { stream = 1; payload = codes "2\n" } ∷ record { stream = 0; payload = codes "cd\n" } ∷ [])

-- the second branch prints nothing
abbrev pub silenced : RunRecord
silenced = run_with (count_frame ∷ [])

-- there is no third branch
abbrev pub unknown_branch : RunRecord
unknown_branch = run_with (count_frame ∷ line_frame ∷ record { stream = 2; payload = codes "ab\n" } ∷ [])

-- a branch was halted, and nothing failed
abbrev pub halted_for_nothing : RunRecord
halted_for_nothing = run_of device_a (events_with Succeeded) (ending how.Done how.Done how.Halted) (count_frame ∷ [])

-- the file was read in part, and the first branch says that it is done
abbrev pub done_too_early : RunRecord
done_too_early =
    run_of (record device_a { at = 3; ended = false; read_faults = 1; exit = Some Errored }) (events_with Errored) (ending (how.Fault code.Read) how.Done how.Halted) (record { stream = 0; payload = codes "1\n" } ∷ [])

-- a read failed, and all say that they are done
abbrev pub hidden_fault : RunRecord
hidden_fault = run_of (record device_a { read_faults = 1 }) (events_with Succeeded) (ending how.Done how.Done how.Done) (count_frame ∷ line_frame ∷ [])

-- the device came back open
abbrev pub left_open : RunRecord
left_open = run_of (record device_a { is_open = true }) (events_with Succeeded) (ending how.Done how.Done how.Done) (count_frame ∷ line_frame ∷ [])

-- the device was told of a failure that there wasn't
abbrev pub wrong_exit : RunRecord
wrong_exit = run_of (record device_a { exit = Some Errored }) (events_with Errored) (ending how.Done how.Done how.Done) (count_frame ∷ line_frame ∷ [])

-- the second branch has no end
abbrev pub end_missing : RunRecord
end_missing = run_of device_a (events_with Succeeded) (record { who = Outer; how = how.Done } ∷ record { who = Inner 0; how = how.Done } ∷ []) (count_frame ∷ line_frame ∷ [])

-- a write failed, and the branch says that it is done
abbrev pub cut_and_done : RunRecord
cut_and_done = broken_with (ending how.Done how.Done how.Done)
