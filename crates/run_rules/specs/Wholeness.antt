-- That nothing is missing where nothing failed.
use Rattle.std.specs.Prelude.{◌≡◌, ℕ, ◌<◌, true, false, not, is_some, List, length, Option, Some, None, IfSome}
use Rattle.std.specs.List.{list_all as all, AllByRecursion}
use Rattle.chunk_core.specs.Elements.{Element, rendering_of}
use Rattle.chunk_core.specs.Outcomes.{End, Done, Outcomes}
use Rattle.chunk_core.specs.Texts.{payloads_of}
use Rattle.chunk_core.specs.declared.code.How.TheVariants as how
use Rattle.device_port.specs.Device.{DeviceTold, faults_of}
use Rattle.device_port.specs.Depot.{content_at}
use Rattle.run_rules.specs.Devices.{came_back}
use Rattle.run_rules.specs.Facts.{first_numbers, has_event, is_failed}
use Rattle.run_rules.specs.Listing.{AlwaysLists, IsListing}
use Rattle.run_rules.specs.Work.{Work, Opener, Values, RunRecord, list_row, most_of}

-- these devices have not failed, and have the same contents
abbrev pub AreUnfailed : (ℕ → DeviceTold) → (ℕ → DeviceTold) → Type 0
AreUnfailed u w = (r : ℕ) → (faults_of (u r) ≡ 0) × ((u r).content ≡ (w r).content)

-- each table's content is told, and isn't refused
abbrev pub AreTablesGood : Option Opener → RunRecord → Type 0
AreTablesGood None c = Unit {0}
AreTablesGood (Some o) c = AllByRecursion (λ p. (bytes : List ℕ) × (content_at c.depot_old.files p.path ≡ Some bytes) × (o.fault_of bytes ≡ None)) o.tables

-- the list, where there is one, comes out without a fault, and no line is left
abbrev pub IsListGood : Option Opener → (DeviceTold → Outcomes) → (ℕ → DeviceTold) → Type 0
IsListGood None A w = Unit {0}
IsListGood (Some o) A w = IfSome o.list (λ l. AlwaysLists l (A (w (list_row o))) (λ e. e ≡ Done))

-- the list, where there is one, gave a stream for each of its lines
abbrev pub IsListWhole : Option Opener → (DeviceTold → Outcomes) → (ℕ → DeviceTold) → Type 0
IsListWhole None A w = Unit {0}
IsListWhole (Some o) A w = IfSome o.list (λ l. IsListing l (A (w (list_row o))) Done)

-- no write and no device failed, no table is refused, the list has no fault, no stream may be stopped, and over these contents each stream's ideal runs end by themselves without a fault
pub record NothingFailed (work : Work) (c : RunRecord) (v : Values) (w : ℕ → DeviceTold) : Type 0 where
  pub written : c.cut ≡ None
  pub devices : AllByRecursion (λ d. faults_of d ≡ 0) (came_back c.depot_old c.depot_new)
  pub tables : AreTablesGood work.opener c
  pub list : IsListGood work.opener work.ideal_listing w
  pub ideal : AllByRecursion (λ k. (u : ℕ → DeviceTold) (ys : List Element) (e : End) → AreUnfailed u w → work.ideal_runs k v u ys e → e ≡ Done) (first_numbers (length work.streams))
  pub most : IfSome (most_of work) (λ n. length c.frames < n)
  pub until : all (λ s. not (is_some s.until)) work.streams ≡ true

-- each stream is done, no finalizer failed, each line of the list was given a stream, and what was printed of each stream renders an ideal run
pub record IsWholeRun (work : Work) (c : RunRecord) (v : Values) (w : ℕ → DeviceTold) : Type 0 where
  pub done : AllByRecursion (λ e. e.how ≡ how.Done) c.ends
  pub clean : has_event is_failed c.events ≡ false
  pub listed : IsListWhole work.opener work.ideal_listing w
  pub output : AllByRecursion (λ k. (ys : List Element) × work.ideal_runs k v w ys Done × (payloads_of k c.frames ≡ rendering_of ys)) (first_numbers (length work.streams))
