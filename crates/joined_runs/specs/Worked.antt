-- A run that is written out, of two streams side by side, and runs that can't be.
use Rattle.std.specs.Prelude.{ℕ, zero, suc, true, false, List, [], ◌∷◌, Some, None, codes}
use Rattle.chunk_core.specs.Outcomes.{Outcomes}
use Rattle.chunk_core.specs.Tables.{Values}
use Rattle.chunk_core.specs.Texts.{Frame, frame_text}
use Rattle.chunk_core.specs.declared.code.Exit.{Exit}
use Rattle.chunk_core.specs.declared.code.Exit.TheVariants.{Canceled, Succeeded}
use Rattle.chunk_core.specs.declared.code.How.{How}
use Rattle.chunk_core.specs.declared.code.How.TheVariants as how
use Rattle.res_ledger.specs.declared.event.StreamNo.{StreamNo}
use Rattle.res_ledger.specs.declared.event.StreamNo.TheVariants.{Inner, Outer}
use Rattle.res_ledger.specs.declared.event.What.{What}
use Rattle.res_ledger.specs.declared.event.What.TheVariants.{Acquire, Cancel, Close, Final, Lease}
use Rattle.res_ledger.specs.declared.event.Event.{Event}
use Rattle.device_port.specs.Device.{DeviceTold, to_read}
use Rattle.device_port.specs.Depot.{DepotTold, fresh}
use Rattle.pull_nodes.specs.Runs.{OpensThen, OrLeft, Reads}
use Rattle.run_rules.specs.declared.end.EndOf.{EndOf}
use Rattle.run_rules.specs.Work.{Opener, RunRecord, Stream}
use Rattle.joined_runs.specs.Together.{RunsTogether}

-- The work.

-- both streams are open at once, and one frame is printed at most
abbrev pub one_frame : Opener
one_frame = record { tables = []; groups = []; list = None; fault_of = λ bytes. None; value_of = λ bytes key. None; max_open = 2; most = Some 1 }

-- one row, whose file is read
abbrev pub reads_file : List ℕ → Stream
reads_file path = record { places = to_read path ∷ []; scopes = 0; until = None }

abbrev pub two_files : List Stream
two_files = reads_file (codes "a") ∷ reads_file (codes "b") ∷ []

-- stream k opens the device of row k and reads it, and may be left at any time
abbrev pub file_runs : ℕ → Values → (ℕ → DeviceTold) → Outcomes
file_runs k v w = OrLeft (Unit {0}) (OpensThen (w k) (OrLeft (Unit {0}) (Reads (w k))) (Unit {0}))

-- there is no list
abbrev pub no_list : DeviceTold → Outcomes
no_list d ys e = ⊥

-- The devices.

-- each file holds one byte
abbrev pub full_depot : DepotTold
full_depot = record { files = Some (λ path. Some (codes "x")); made = []; retired = [] }

-- both devices were opened, read and closed, the first one to its end
abbrev pub worked_home : ℕ → DeviceTold
worked_home zero = record (fresh full_depot (to_read (codes "a"))) { at = 1; ended = true; opens = 1; closes = 1; exit = Some Succeeded }
worked_home (suc r) = record (fresh full_depot (to_read (codes "b"))) { number = 1; at = 1; opens = 1; closes = 1; exit = Some Canceled }

abbrev pub read_depot : DepotTold
read_depot = record full_depot { made = to_read (codes "a") ∷ to_read (codes "b") ∷ []; retired = worked_home 1 ∷ worked_home 0 ∷ [] }

-- What was noted.

abbrev pub noted : ℕ → StreamNo → What → Event
noted n k w = record { stamp = n; by = k; what = w }

-- the outer stream gave both and closed its root so
abbrev pub given : Exit → List Event → List Event
given exit L = noted 0 Outer (Lease 0 0) ∷ noted 1 Outer (Lease 1 0) ∷ noted 2 Outer (Close 0 exit) ∷ L

-- and both ran side by side
abbrev pub both_ran : List Event
both_ran =
    noted 3 (Inner 0) (Acquire 0 0) ∷ noted 4 (Inner 1) (Acquire 1 0) ∷ noted 5 (Inner 0) (Close 0 Succeeded) ∷ noted 6 (Inner 1) (Close 0 Canceled) ∷ noted 7 (Inner 0) (Final 0 Succeeded true)
    ∷ noted 8 (Inner 1) (Final 1 Canceled true) ∷ noted 9 (Inner 0) (Cancel 0 Succeeded) ∷ noted 10 (Inner 1) (Cancel 1 Canceled) ∷ []

-- only the first one ran
abbrev pub first_ran : List Event
first_ran = noted 3 (Inner 0) (Acquire 0 0) ∷ noted 4 (Inner 0) (Close 0 Succeeded) ∷ noted 5 (Inner 0) (Final 0 Succeeded true) ∷ noted 6 (Inner 0) (Cancel 0 Succeeded) ∷ []

-- The run.

abbrev pub ended_so : StreamNo → How → EndOf
ended_so k h = record { who = k; how = h }

abbrev pub byte_of : ℕ → Frame
byte_of k = record { stream = k; payload = codes "x" }

-- stream 0 printed the only frame and is done; stream 1, whose byte came too late, is halted
abbrev pub worked_run : RunRecord
worked_run = record {
  depot_old = full_depot;
  depot_new = read_depot;
  ends = ended_so Outer how.Done ∷ ended_so (Inner 0) how.Done ∷ ended_so (Inner 1) how.Halted ∷ [];
  events = given Succeeded both_ran;
  frames = byte_of 0 ∷ [];
  cut = None;
  rest = [];
  memory = false;
}

-- so it was
pub record IsWorked : Type 0 where
  pub together : RunsTogether one_frame two_files file_runs no_list worked_run

-- such a run can't be
abbrev pub IsRefused : RunRecord → Type 0
IsRefused c = ¬ (RunsTogether one_frame two_files file_runs no_list c)

-- No such run: an end is missing; the ends stand in another order; a frame more was printed than may be; the whole frame is said to be the rest of one whose write failed; a stream is halted
-- for nothing; a stream is done that noted nothing; a stream noted something that isn't there; the outer stream is done and closed its root as canceled.
pub record AreRefused : Type 0 where
  pub lost_end : IsRefused (record worked_run { ends = ended_so Outer how.Done ∷ ended_so (Inner 0) how.Done ∷ [] })
  pub other_order : IsRefused (record worked_run { ends = ended_so (Inner 0) how.Done ∷ ended_so Outer how.Done ∷ ended_so (Inner 1) how.Halted ∷ [] })
  pub second_frame : IsRefused (record worked_run { frames = byte_of 0 ∷ byte_of 1 ∷ [] })
  pub whole_rest : IsRefused (record worked_run { frames = []; cut = Some (byte_of 0); rest = frame_text 0 (codes "x") })
  pub halted_for_nothing : IsRefused (record worked_run { frames = [] })
  pub done_in_silence : IsRefused (record worked_run { ends = ended_so Outer how.Done ∷ ended_so (Inner 0) how.Done ∷ ended_so (Inner 1) how.Done ∷ []; events = given Succeeded first_ran })
  pub stray_stream : IsRefused (record worked_run { events = given Succeeded (noted 3 (Inner 2) (Close 0 Succeeded) ∷ []) })
  pub closed_otherwise : IsRefused (record worked_run { events = given Canceled both_ran })
