-- The devices of a rotation's rows, when it is over.
use Rattle.std.specs.Prelude.{◌≡◌, ℕ, ◌+◌, ◌<◌, ◌≤◌, true, nat_eq, List, [], ◌++◌, length, map, Option, Some, None}
use Rattle.std.specs.List.Sorted.{IsPermutation}
use Rattle.chunk_core.specs.Lists.{IsAmong}
use Rattle.chunk_core.specs.declared.code.How.{How}
use Rattle.device_port.specs.Device.{DeviceTold, Place, to_read}
use Rattle.device_port.specs.Depot.{DepotTold, content_at, fresh}
use Rattle.run_rules.specs.Facts.{at}
use Rattle.run_rules.specs.Homes.{is_tried}
use Rattle.scope_tree.specs.declared.branch.Spent.{Spent}
use Rattle.joined_runs.specs.Devices.{IsAtRest}
use Rattle.rotate_rules.specs.Rotation.{TellsFaults}

-- the devices of the rows from row 0 on: those that ended, and behind them those that couldn't be opened
abbrev pub devices_by_row : {V : Type 0} → (V → DeviceTold) → List (Spent V) → List V → List DeviceTold
devices_by_row told spents unopened = map (λ x. told x.pay) spents ++ map (λ d. told d) unopened

module _ (places : List Place) (old : DepotTold) where
  -- with the device of the row nothing was done
  abbrev pub unmade_at : ℕ → DeviceTold
  unmade_at r = elim (at places r) [ Some p ↦ fresh old p | None ↦ fresh old (to_read []) ]

  -- the first rows have these devices
  abbrev pub home_of : List DeviceTold → ℕ → DeviceTold
  home_of ds r = elim (at ds r) [ Some d ↦ d | None ↦ unmade_at r ]

  -- the device of the row r was made for its place as the r-th one, and is at rest; something was tried on it, and an act of it failed only where the end says so
  pub record IsLeft (how : How) (r : ℕ) (d : DeviceTold) : Type 0 where
    pub place : Place
    pub stands : at places r ≡ Some place
    pub number_is : d.number ≡ length old.made + r
    pub place_is : d.place ≡ place
    pub content_is : d.content ≡ content_at old.files place.path
    pub rest : IsAtRest d
    pub tried : is_tried d ≡ true
    pub told : TellsFaults how d

  -- these are the devices of the first rows
  pub record AreLeft (how : How) (ds : List DeviceTold) : Type 0 where
    pub few : length ds ≤ length places
    pub each : (r : ℕ) (d : DeviceTold) → at ds r ≡ Some d → IsLeft how r d

  -- those of the first rows stand on the shelf, in any order, each as it was closed, and behind them are those that couldn't be opened
  pub record AreShelved {V : Type 0} (told : V → DeviceTold) (how : How) (spents shelf : List (Spent V)) (unopened : List V) : Type 0 where
    pub same : IsPermutation spents shelf
    pub each : (r : ℕ) (x : Spent V) → at spents r ≡ Some x → (x.row ≡ r) × ((told x.pay).opens ≡ 1) × ((told x.pay).exit ≡ Some x.exit) × (x.ok ≡ nat_eq (told x.pay).close_faults 0)
    pub waits : (d : V) → IsAmong d unopened → (told d).opens ≡ 0
    pub left : AreLeft how (devices_by_row told spents unopened)
