-- What the run of a rotating output shows.
use Rattle.std.specs.Prelude.{◌≡◌, ◌≢◌, ◌<◌, ◌≤◌, ℕ, true, not, ◌&&◌, nat_eq, List, [], ◌∷◌, ◌++◌, length, map, filter}
use Rattle.std.specs.List.{AllByRecursion}
use Rattle.chunk_core.specs.declared.code.Code.TheVariants as code
use Rattle.chunk_core.specs.declared.code.How.{How}
use Rattle.chunk_core.specs.declared.code.How.TheVariants as how
use Rattle.device_port.specs.Device.{DeviceTold}
use Rattle.res_ledger.specs.declared.event.StreamNo.TheVariants.{Inner}
use Rattle.res_ledger.specs.declared.event.Event.{Event}
use Rattle.res_ledger.specs.Own.{own, rows}
use Rattle.res_ledger.specs.Whole.{is_final}
use Rattle.res_ledger.specs.Judge.{is_noted}
use Rattle.run_rules.specs.Devices.{came_back}
use Rattle.run_rules.specs.Homes.{is_tried}
use Rattle.run_rules.specs.Run.{Performs}
use Rattle.run_rules.specs.Work.{RunRecord}
use Rattle.rotate_rules.specs.Pieces.{rotate_work}

-- the rows but row 0 that were acquired and have no Final
abbrev pub open_files : List Event → List ℕ
open_files P = filter (λ r. not (nat_eq r 0) && not (is_noted (is_final r) P)) (map (λ x. x.0) (rows (own (Inner 0) P)))

-- at each position at most two files are open
abbrev pub HoldsTwo : List Event → Type 0
HoldsTwo L = (P Q : List Event) (e : Event) → L ≡ P ++ e ∷ Q → length (open_files (P ++ e ∷ [])) ≤ 2

-- an act of the device failed only where the end says so
pub record TellsFaults (h : How) (d : DeviceTold) : Type 0 where
  pub opens : 0 < d.open_faults → h ≡ how.Fault code.Open
  pub reads : 0 < d.read_faults → h ≡ how.Fault code.Read
  pub writes : 0 < d.write_faults → h ≡ how.Fault code.Write

-- What is so of each rotation: at most two files are open at a time; the stream is never halted, and nothing is left out but for want of memory, and memory is said to have been wanting only where it ended so; each device that was made was
-- to be opened, and a failure is the stream's end.
pub record IsRotation (c : RunRecord) : Type 0 where
  pub two : HoldsTwo c.events
  pub never_halted : AllByRecursion (λ e. e.how ≢ how.Halted) c.ends
  pub begun : c.ends ≡ [] → c.memory ≡ true
  pub memory : c.memory ≡ true → AllByRecursion (λ e. e.how ≡ how.Memory) c.ends
  pub tried : AllByRecursion (λ d. is_tried d ≡ true) (came_back c.depot_old c.depot_new)
  pub told : AllByRecursion (λ e. AllByRecursion (TellsFaults e.how) (came_back c.depot_old c.depot_new)) c.ends

-- the work of a rotation was done, as each is
pub record RotatesFiles (path prefix : List ℕ) (n : ℕ) (c : RunRecord) : Type 0 where
  pub performs : Performs (rotate_work path prefix n) c
  pub rotation : IsRotation c
