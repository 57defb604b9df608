-- The devices that a run made.
use Rattle.std.specs.Prelude.{◌≡◌, ℕ, ◌+◌, ◌<◌, ◌≤◌, Bool, false, nat_eq, nat_lt, List, [], ◌∷◌, ◌++◌, map, length, drop, filter, count_by, flat_map, Option, Some, None, IfSome}
use Rattle.std.specs.List.Sorted.{IsPermutation}
use Rattle.chunk_core.specs.Lists.{IsAmong}
use Rattle.std.specs.List.{AllByRecursion}
use Rattle.chunk_core.specs.declared.code.Exit.{Exit}
use Rattle.res_ledger.specs.declared.event.What.{What}
use Rattle.res_ledger.specs.declared.event.Event.{Event}
use Rattle.res_ledger.specs.Order.{same_exit}
use Rattle.device_port.specs.declared.device.Mode.TheVariants as mode
use Rattle.device_port.specs.Device.{Place, DeviceTold}
use Rattle.device_port.specs.Depot.{DepotTold, KeepsFilesBut, KeepsWritten}
use Rattle.run_rules.specs.Facts.{is_place, at, acquired_row, failed_row, ended_row}

-- the devices that came back in this run, and the places that devices were made for
abbrev pub came_back : DepotTold → DepotTold → List DeviceTold
came_back old new = drop (length old.retired) new.retired

abbrev pub made_for : DepotTold → DepotTold → List Place
made_for old new = drop (length old.made) new.made

-- these places, with the numbers from n on
abbrev pub numbered : ℕ → List Place → List (ℕ × Place)
numbered n [] = []
numbered n (p ∷ ps) = (n, p) ∷ numbered (n + 1) ps

-- a device, by its number and its place
abbrev pub named : DeviceTold → ℕ × Place
named d = (d.number, d.place)

-- the device was closed with this exit
abbrev pub is_closed_with : Exit → DeviceTold → Bool
is_closed_with x d = elim d.exit [ Some y ↦ same_exit x y | None ↦ false ]

-- each place stands as often in the one list as in the other
abbrev pub StandAsOften : List Place → List Place → Type 0
StandAsOften xs ys = AllByRecursion (λ p. count_by (is_place p) xs ≡ count_by (is_place p) ys) (xs ++ ys)

-- the place of a row
abbrev pub place_of_row : List Place → Option ℕ → List Place
place_of_row ps None = []
place_of_row ps (Some r) = elim (at ps r) [ Some p ↦ p ∷ [] | None ↦ [] ]

-- by path and mode, the devices that pass are as many as the rows that the events name
abbrev pub AreAsMany : (DeviceTold → Bool) → (What → Option ℕ) → List DeviceTold → List Place → List Event → Type 0
AreAsMany passes row ds places L = StandAsOften (map (λ d. d.place) (filter passes ds)) (flat_map (λ e. place_of_row places (row e.what)) L)

-- of no place there are more than of the rows
abbrev pub AreNoMore : List Place → List Place → Type 0
AreNoMore made places = AllByRecursion (λ p. count_by (is_place p) made ≤ count_by (is_place p) places) made

-- the row is one of the n rows
abbrev pub IsRowBelow : ℕ → Option ℕ → Type 0
IsRowBelow n None = Unit {0}
IsRowBelow n (Some r) = r < n

-- one of these devices was opened for writing at the path
abbrev pub IsWrittenBy : List DeviceTold → List ℕ → Type 0
IsWrittenBy ds path = (d : DeviceTold) × IsAmong d ds × (d.place.mode ≡ mode.Write) × (d.opens ≡ 1) × (path ≡ d.place.path)

-- a path that isn't there was never opened to be read
abbrev pub OpensWhatIsThere : DeviceTold → Type 0
OpensWhatIsThere d = d.place.mode ≡ mode.Read → d.present ≡ Some false → d.opens ≡ 0

-- no more was read than there is
abbrev pub ReadsWhatIsThere : DeviceTold → Type 0
ReadsWhatIsThere d = IfSome d.content (λ bytes. d.at ≤ length bytes)

-- what a device does with what isn't there
abbrev pub KeepsToWhatIsThere : DeviceTold → Type 0
KeepsToWhatIsThere d = OpensWhatIsThere d × ReadsWhatIsThere d

-- a device that came back isn't open: it was closed as often as it was opened, which was once at most, and where its path was there, and no more of it was read than there is
pub record IsShut (d : DeviceTold) : Type 0 where
  pub shut : d.is_open ≡ false
  pub closes : d.closes ≡ d.opens
  pub once : d.opens ≤ 1
  pub there : OpensWhatIsThere d
  pub within : ReadsWhatIsThere d

-- Each device made in the run came back once and is shut; no more were made than there are rows. By path and mode, the devices that were
-- opened are as many as the rows acquired, those whose close failed as the rows whose Final isn't ok, and those closed with an exit as
-- the rows whose Final has it. Files change only where a device was opened for writing, and hold what was written there.
pub record DevicesAccounted (old new : DepotTold) (places : List Place) (L : List Event) : Type 0 where
  pub made : new.made ≡ old.made ++ made_for old new
  pub few : AreNoMore (made_for old new) places
  pub retired : new.retired ≡ old.retired ++ came_back old new
  pub once : IsPermutation (numbered (length old.made) (made_for old new)) (map named (came_back old new))
  pub shut : AllByRecursion IsShut (came_back old new)
  pub rows : AllByRecursion (λ e. IsRowBelow (length places) (acquired_row e.what)) L
  pub acquired : AreAsMany (λ d. nat_eq d.opens 1) acquired_row (came_back old new) places L
  pub failed : AreAsMany (λ d. nat_lt 0 d.close_faults) failed_row (came_back old new) places L
  pub exits : (exit : Exit) → AreAsMany (is_closed_with exit) (ended_row exit) (came_back old new) places L
  pub files : KeepsFilesBut (IsWrittenBy (came_back old new)) old.files new.files
  pub stored : AllByRecursion (KeepsWritten new.files) (came_back old new)
