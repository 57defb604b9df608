-- The outer stream of a tee, which reads one file, and its ledger.
use Rattle.std.specs.Prelude.{◌≡◌, ◌⊎◌, ℕ, List, [], ◌∷◌, None}
use Rattle.std.specs.List.{AllByRecursion}
use Rattle.chunk_core.specs.Elements.{Element}
use Rattle.chunk_core.specs.Outcomes.{End, Outcomes}
use Rattle.chunk_core.specs.declared.code.How.{How}
use Rattle.device_port.specs.Device.{Place, DeviceTold, to_read}
use Rattle.device_port.specs.Depot.{content_at}
use Rattle.pull_nodes.specs.Failures.{FileTells}
use Rattle.pull_nodes.specs.Runs.{OrLeft, OpensThen, Reads}
use Rattle.res_ledger.specs.declared.event.StreamNo.TheVariants.{Outer}
use Rattle.res_ledger.specs.declared.event.Event.{Event}
use Rattle.res_ledger.specs.Ledger.{IsLegal, IsStamped, NotesClose}
use Rattle.res_ledger.specs.Order.{IsOrdered}
use Rattle.res_ledger.specs.Own.{opens, own}
use Rattle.res_ledger.specs.Whole.{IsComplete}
use Rattle.run_rules.specs.Devices.{came_back}
use Rattle.run_rules.specs.Ends.{IsShown}
use Rattle.run_rules.specs.Exits.{HasExit}
use Rattle.run_rules.specs.Facts.{leased_stream}
use Rattle.run_rules.specs.Homes.{IsBack, IsTied, IsUntouched}
use Rattle.run_rules.specs.Outputs.{IsReported}
use Rattle.run_rules.specs.Work.{RunRecord}

-- the one row: the file that is read
abbrev pub tee_places : List ℕ → List Place
tee_places path = to_read path ∷ []

-- the device is opened and read, and may be left at any time; the end tells of each failure of it
abbrev pub ReaderRuns : DeviceTold → Outcomes
ReaderRuns d ys e = OrLeft (Unit {0}) (OpensThen d (OrLeft (Unit {0}) (Reads d)) (Unit {0})) ys e × FileTells d e

-- the rules of the ledger: only the outer stream notes something, it leases nothing and opens no scope
pub record KeepsReaderRules (L : List Event) : Type 0 where
  pub stamped : IsStamped L
  pub legal : IsLegal L
  pub complete : IsComplete L
  pub ordered : IsOrdered L
  pub scopes : opens (own Outer L) ≡ []
  pub own : AllByRecursion (λ e. (e.by ≡ Outer) × (leased_stream e.what ≡ None)) L

-- the device of the row: the only one that came back, tied to what the ledger says of the row
pub record IsReaderHome (path : List ℕ) (c : RunRecord) (d : DeviceTold) : Type 0 where
  pub place : d.place ≡ to_read path
  pub content : d.content ≡ content_at c.depot_old.files path
  pub back : IsBack c d ⊎ IsUntouched d
  pub tied : AllByRecursion (λ e. IsTied (λ r. d) e.what) c.events
  pub only : (x : DeviceTold) → IsBack c x → x ≡ d

-- the outer stream gave this over its device, and ended so: a fault of its device is shown by it, it closed its root, and what it noted of exits tells of that end
pub record IsReader (path : List ℕ) (c : RunRecord) (d : DeviceTold) (given : List Element) (end : End) (h : How) : Type 0 where
  pub run : ReaderRuns d given end
  pub reported : IsReported end h
  pub fault : IsShown (came_back c.depot_old c.depot_new) (tee_places path) h
  pub root : NotesClose c.events Outer 0
  pub exits : AllByRecursion (λ x. HasExit (record { who = Outer; how = h }) x.what) c.events
