-- What holds of the lists of plans.
use Rattle.std.specs.Prelude.{◌≡◌, ℕ, ◌<◌, ◌≤◌, Bool, true, false, List, [], ◌∷◌, ◌++◌, length, map, IsUtf8}
use Rattle.std.specs.List.{AllByRecursion}
use Rattle.chunk_core.specs.Elements.{Element, Line}
use Rattle.chunk_core.specs.Outcomes.{End, Fault}
use Rattle.chunk_core.specs.declared.code.Code.TheVariants as code
use Rattle.device_port.specs.Device.{DeviceTold}
use Rattle.list_lines.specs.Lists.{GivesLines, IsInTime, ListRun}
use Rattle.pipeline_desc.specs.Meant.{PlanMeant}
use Rattle.pipeline_desc.specs.declared.listing.ListSpec.{ListSpec}
use Rattle.plan_work.specs.Listed.{ListRuns, lister_of}
use Rattle.run_rules.specs.Listing.{IsReadInTime, listing_of}
use Rattle.list_runs.specs.Meant.{list_meaning}

-- the steps of a list take bytes and give lines
abbrev pub GivesListedLines : Type 0
GivesListedLines = GivesLines list_meaning

-- what a list gives over a device that was opened is what the list of a plan may give
abbrev pub RunsAreListRuns : Type 0
RunsAreListRuns = (d : DeviceTold) (ys : List Element) (e : End) → d.opens ≡ 1 → d.open_faults ≡ 0 → ListRun list_meaning d ys e → ListRuns d ys e

-- a list that was read no further than these lines needed was read in time, where at least so many were given streams
abbrev pub IsTimely : Type 0
IsTimely = (p : PlanMeant) (l : ListSpec) (d : DeviceTold) (given lines : List (List ℕ)) → length given ≤ length lines → IsInTime list_meaning d given → IsReadInTime (lister_of p lines l) d

-- the lines of a list are UTF-8
abbrev pub LinesAreTexts : Type 0
LinesAreTexts = (d : DeviceTold) (lines : List (List ℕ)) (e : End) → ListRun list_meaning d (map Line lines) e → AllByRecursion IsUtf8 lines

-- Of lines that are good all are given streams where there are not too many. A further one that is bad is a fault, and so is any where there are as many as may be.
pub record ListsLines (most : ℕ) (is_bad : List ℕ → Bool) (lines : List (List ℕ)) : Type 0 where
  pub good : length lines ≤ most → (e : End) → listing_of most is_bad (map Line lines) e ≡ record { lines = lines; end = e }
  pub bad : length lines < most → (line : List ℕ) (e : End) → is_bad line ≡ true → listing_of most is_bad (map Line (lines ++ line ∷ [])) e ≡ record { lines = lines; end = Fault code.BadPath }
  pub many : length lines ≡ most → (line : List ℕ) (e : End) → listing_of most is_bad (map Line (lines ++ line ∷ [])) e ≡ record { lines = lines; end = Fault code.TooMany }

abbrev pub AreListings : Type 0
AreListings = (most : ℕ) (is_bad : List ℕ → Bool) (lines : List (List ℕ)) → AllByRecursion (λ line. is_bad line ≡ false) lines → ListsLines most is_bad lines
