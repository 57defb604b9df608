-- The work of one stream, from what it has done.
use Rattle.std.proofs.Common.{◌≡◌, ℕ, ◌+◌, ◌<◌, List, ◌++◌, map, length, Option, Some, None, IfSome, refl, sym, ◌∙◌, ap, arith, append-nil}
use Rattle.std.specs.List.{AllByRecursion}
use Rattle.chunk_core.specs.Outcomes.{Outcomes}
use Rattle.chunk_core.specs.declared.code.Code.{Code}
use Rattle.chunk_core.specs.declared.code.How.{How}
use Rattle.chunk_core.specs.declared.code.How.TheVariants as how
use Rattle.res_ledger.specs.declared.event.Event.{Event}
use Rattle.res_ledger.specs.declared.event.StreamNo.{StreamNo}
use Rattle.device_port.specs.Device.{Place, DeviceTold, faults_of}
use Rattle.device_port.specs.Depot.{DepotTold}
use Rattle.run_rules.specs.Facts.{at, first_numbers}
use Rattle.run_rules.specs.Devices.{DevicesAccounted, came_back}
use Rattle.run_rules.specs.Work.{RunRecord, Work, Values}
use Rattle.run_rules.specs.Ends.{IsShown, act_count}
use Rattle.run_rules.specs.Homes.{AreLeftAlone, HaveHomes}
use Rattle.run_rules.specs.Rules.{KeepsRules}
use Rattle.res_ledger.proofs.Permuted.{range_among, range_distinct}
use Rattle.lone_stream.specs.Account.{alone, ComesBack, IsAccount, IsAccountOf}
use Rattle.joined_runs.specs.Devices.{MadeComeBack}
use Rattle.job_runs.proofs.Returned.{are_made, places_are}
use Rattle.lone_stream.proofs.Accounts.{kept, leaves_closed, ours}
use Rattle.joined_runs.proofs.MadeRows as made
use Rattle.joined_runs.proofs.MadeRows.{at_below, at_some, place_found}

-- each of its rows had a device made
pub all_made : (old new : DepotTold) (places : List Place) (w : ℕ → DeviceTold) → ComesBack old new places w → MadeComeBack old new places w
all_made old new places w d = record {
  rows = first_numbers (length places);
  apart = range_distinct 0 (length places);
  made = d.made ∙ ap (λ ps. old.made ++ ps) (sym (places_are old.files w (length old.made) 0 places d.devices));
  back = d.back;
  retired = d.retired;
  each = d.each;
  devices = are_made old.files w places (length old.made) 0 places d.devices (λ i p e. let same : 0 + i ≡ i = omega arith in ap (λ k. at places k) same ∙ e);
  others = λ r p e n. let l = at_below places r p e in absurd (n (range_among 0 (length places) r (omega arith) (omega (arith, l))));
  files = d.files;
  stored = d.stored;
  there = d.there;
}

-- what the devices of a stream tell, and its ledger
module _ {who : StreamNo} (places : List Place) (scopes : ℕ) (old new : DepotTold) (w : ℕ → DeviceTold) (h : How) (L : List Event) (d : ComesBack old new places w) (a : IsAccountOf who (length places) scopes w h L) where
  abbrev every : MadeComeBack old new places w
  every = all_made old new places w d

  pub accounted : DevicesAccounted old new places L
  accounted = made.accounted places old new w every L (kept (length places) scopes w h L a)

  -- the rows are at home
  pub homes : (runs ideal : (ℕ → DeviceTold) → Outcomes) (v : Values) (c : RunRecord) → c.depot_old ≡ old → c.depot_new ≡ new → c.events ≡ L → AreLeftAlone (alone places scopes runs ideal) c w → HaveHomes (alone places scopes runs ideal) c v w
  homes runs ideal v c before after is left = made.homes places old new w every L (kept (length places) scopes w h L a) (alone places scopes runs ideal) c v (append-nil places) before after is tt left

  -- a fault of an act has a device of a row that shows it
  pub shown : (e : How) → ((c : Code) → e ≡ how.Fault c → IfSome (act_count c) (λ n. (r : ℕ) × (r < length places) × (0 < n (w r)))) → IsShown (came_back old new) places e
  shown e h = made.shown places old new w every places e (λ c is. counted_so (act_count c) (h c is))
    where
      counted_so : (o : Option (DeviceTold → ℕ)) → IfSome o (λ n. (r : ℕ) × (r < length places) × (0 < n (w r))) → IfSome o (made.IsCountedRow places old new w every places)
      counted_so None c = tt
      counted_so (Some n) c = let p = at_some places c.0 c.1 in (c.0, p.0, p.1, place_found places c.0 p.0 p.1, c.2)

  -- where nothing failed each device is without a fault
  pub faultless : AllByRecursion (λ x. faults_of x ≡ 0) (came_back old new) → (r : ℕ) → r < length places → faults_of (w r) ≡ 0
  faultless = made.faultless places old new w every

-- stream 0 keeps the rules of its work
module _ (places : List Place) (scopes : ℕ) (runs ideal : (ℕ → DeviceTold) → Outcomes) (w : ℕ → DeviceTold) (h : How) (L : List Event) (a : IsAccount (length places) scopes w h L) where
  pub keeps_rules : KeepsRules (alone places scopes runs ideal) L
  keeps_rules = record {
    stamped = a.stamped;
    legal = a.legal;
    complete = a.complete;
    ordered = a.ordered;
    ours = ours places scopes w h L a runs ideal;
    scopes = (a.opened, tt);
    leaving = leaves_closed (length places) scopes w h L a;
    given = tt;
  }
