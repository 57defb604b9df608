-- What a list has given by the rules of a run.
use Rattle.std.proofs.Common.{◌≡◌, ◌⊎◌, ℕ, ◌+◌, ◌<◌, ◌≤◌, false, true, List, [], ◌∷◌, ◌++◌, length, map, inl, inr, refl, ap, ◌∙◌, subst, ⊎_elim, arith}
use Rattle.std.specs.List.{AllByRecursion}
use Rattle.chain_pipes.specs.Chains.{StandsFor, sound}
use Rattle.chain_pipes.specs.declared.chain.Chain.{Chain}
use Rattle.chunk_core.specs.Elements.{Line}
use Rattle.chunk_core.specs.Outcomes.{Cut, End, Fault}
use Rattle.chunk_core.specs.declared.code.Code.TheVariants as code
use Rattle.chunk_core.specs.declared.code.How.{How}
use Rattle.chunk_core.specs.declared.code.How.TheVariants as how
use Rattle.device_port.specs.Device.{DeviceTold}
use Rattle.list_lines.specs.Lists.{GivesLine, HasRun, IsInTime, OnlyReads, end_of}
use Rattle.list_lines.specs.declared.lines.ListLines.{ListLines}
use Rattle.list_lines.proofs.Given.{front_has_run, given_has_run}
use Rattle.list_runs.specs.Meant.{list_meaning}
use Rattle.list_runs.proofs.Listings.{are_listings}
use Rattle.list_runs.proofs.Runs.{runs_are_list_runs}
use Rattle.list_runs.proofs.Timely.{is_timely}
use Rattle.outer_tables.specs.Whole.{WasRead}
use Rattle.pipeline_desc.specs.Meant.{PlanMeant}
use Rattle.pipeline_desc.specs.declared.listing.ListSpec.{ListSpec}
use Rattle.plan_work.specs.Listed.{is_bad_line, lister_of}
use Rattle.run_rules.specs.Listing.{IsReadInTime, listing_of}
use Rattle.outer_source.specs.Lists.{HasListed, IsJustOpened}

-- reading goes on
pub reads_on : (first now after : DeviceTold) → IsJustOpened first → WasRead 0 first now → OnlyReads now after → WasRead after.read_faults first after
reads_on first now after fresh was only =
    only ∙ (ap (λ (d : DeviceTold). let t : DeviceTold = record d { at = after.at; ended = after.ended; read_faults = after.read_faults } in t) was
    ∙ ap (λ i. let t : DeviceTold = record first { at = after.at; ended = after.ended; read_faults = i } in t) (let z = fresh.read_faults in let e : after.read_faults ≡ first.read_faults + after.read_faults = omega (z, arith) in e))

-- a device that was opened once is told so later
opened_so : (faults : ℕ) (first now : DeviceTold) → IsJustOpened first → WasRead faults first now → (now.opens ≡ 1) × (now.open_faults ≡ 0)
opened_so faults first now fresh was = (ap (λ (d : DeviceTold). d.opens) was ∙ fresh.opens, ap (λ (d : DeviceTold). d.open_faults) was ∙ fresh.open_faults)

module _ {V : Type 0} (told : V → DeviceTold) (p : PlanMeant) (l : ListSpec) (first now : V) (fresh : IsJustOpened (told first)) (lines : List (List ℕ)) (good : AllByRecursion (λ line. is_bad_line p line ≡ false) lines) where
  abbrev d : DeviceTold
  d = told now

  module _ (faults : ℕ) (was : WasRead faults (told first) d) (in_time : IsInTime list_meaning d lines) where
    timely : IsReadInTime (lister_of p lines l) d
    timely = is_timely p l d lines lines (omega arith) in_time

    -- these lines are a run that ends so
    pub listed_so : length lines ≤ l.max → (h : How) → (faults ≡ 0) ⊎ (h ≡ how.Fault code.Read) → HasRun list_meaning d lines h → HasListed told p l first now lines (end_of h)
    listed_so few h failed run = record {
      faults = faults;
      reads = was;
      failed = ⊎_elim (λ z. inl z) (λ e. inr (ap end_of e)) failed;
      listing =
          let o = opened_so faults (told first) d fresh was in
          (map Line lines, end_of h, runs_are_list_runs d (map Line lines) (end_of h) o.0 o.1 run, (are_listings l.max (is_bad_line p) lines good).good few (end_of h));
      in_time = timely;
      few = in_time.few;
    }

  -- behind them a line was given
  module _ (was : WasRead 0 (told first) d) (line : List ℕ) (reader : ListLines Chain) (g : GivesLine StandsFor list_meaning d lines reader line) where
    run : HasRun list_meaning d (lines ++ line ∷ []) how.Memory
    run = given_has_run StandsFor sound list_meaning d (lines ++ line ∷ []) reader g.now

    -- which has no stream yet
    pub before_line : length lines ≤ l.max → HasListed told p l first now lines Cut
    before_line few = listed_so 0 was g.in_time few how.Memory (inl refl) (front_has_run list_meaning d lines (line ∷ []) how.Memory run)

    refused_so : (e : End) → listing_of l.max (is_bad_line p) (map Line (lines ++ line ∷ [])) Cut ≡ record { lines = lines; end = e } → HasListed told p l first now lines e
    refused_so e is = record {
      faults = 0;
      reads = was;
      failed = inl refl;
      listing =
          let o = opened_so 0 (told first) d fresh was in
          (map Line (lines ++ line ∷ []), Cut, runs_are_list_runs d (map Line (lines ++ line ∷ [])) Cut o.0 o.1 run, is);
      in_time = timely 0 was g.in_time;
      few = g.in_time.few;
    }

    -- it is one too many, or a bad one
    pub many_lines : length lines ≡ l.max → HasListed told p l first now lines (Fault code.TooMany)
    many_lines is = refused_so (Fault code.TooMany) ((are_listings l.max (is_bad_line p) lines good).many is line Cut)

    pub bad_line : length lines < l.max → is_bad_line p line ≡ true → HasListed told p l first now lines (Fault code.BadPath)
    bad_line few bad = refused_so (Fault code.BadPath) ((are_listings l.max (is_bad_line p) lines good).bad few line Cut bad)

-- so far no read has failed
pub unfailed : {V : Type 0} (told : V → DeviceTold) (p : PlanMeant) (l : ListSpec) (first now : V) (lines : List (List ℕ)) → IsJustOpened (told first) → HasListed told p l first now lines Cut → WasRead 0 (told first) (told now)
unfailed told p l first now lines fresh h = ⊎_elim (λ z. subst (λ k. WasRead k (told first) (told now)) z h.reads) (λ e. cc) h.failed
