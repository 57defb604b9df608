-- Calls with devices, files or streams that do as none does are refused.
use Rattle.std.proofs.Common.{◌≡◌, ◌≢◌, ℕ, [], length, take, Option, Some, None, Ok, Err, Result, refl, ap, ⊎_elim, arith}
use Rattle.clap.proofs.OnLiterals.{clap_on_literals}
use Rattle.chunk_core.proofs.Members.{among_nil}
use Rattle.command_words.specs.Words.{command_of}
use Rattle.command_words.specs.declared.asked.Asked.TheVariants.{Run}
use Rattle.device_port.specs.Depot.{KeepsFilesBut}
use Rattle.pipeline_desc.specs.Meant.{PlanMeant}
use Rattle.pipeline_desc.specs.Plans.{plan_of}
use Rattle.pipeline_desc.specs.declared.refusal.Refusal.{Refusal}
use Rattle.run_rules.specs.Devices.{IsWrittenBy, came_back}
use Rattle.run_rules.specs.Pace.{BeginInOrder}
use Rattle.flume_cli.specs.Headline.{Call, DoesPlan, RunsInput, RunsStreams, StopsBefore}
use Rattle.headline_laws.specs.Unruly.{b, emptied_unopened, opened_though_missing, opened_twice, out_of_turn, read_beyond_the_end, second_first_ledger}
use Rattle.headline_laws.proofs.Asked.{done_if, run_asks, unless_early, work_of}
use Rattle.headline_laws.proofs.Refusing.{an_end, bytes_of}

pub opened_twice_refused : ¬ (RunsStreams opened_twice)
opened_twice_refused h = let l = (work_of opened_twice h refl (an_end _ [])).performs.devices.shut.0.once in omega (arith, l)

pub opened_though_missing_refused : ¬ (RunsStreams opened_though_missing)
opened_though_missing_refused h = let n = (work_of opened_though_missing h refl (an_end _ [])).performs.devices.shut.0.there refl refl in omega (arith, n)

pub read_beyond_the_end_refused : ¬ (RunsStreams read_beyond_the_end)
read_beyond_the_end_refused h = let l = (work_of read_beyond_the_end h refl (an_end _ [])).performs.devices.shut.0.within in omega (arith, l)

-- What was done for run, where there are ends.

pub turn_asks : command_of out_of_turn.words ≡ Some (Run (Some 1))
unfolding clap_on_literals
turn_asks = refl

module _ (c : Call) (h : RunsStreams c) (most : Option ℕ) (asks : command_of c.words ≡ Some (Run most)) (some : c.ends ≢ []) where
  pub ran_as : RunsInput c h.causes most
  ran_as =
      ⊎_elim
      (λ (x : StopsBefore c h.causes). absurd (some x.nothing.ends))
      (λ (x : RunsInput c h.causes most). x)
      (done_if c h.causes (Some (Run most)) asks (unless_early c h.causes h.causes.early some h.does) h.does)

  -- whatever its description means, the files are as before, but where they were written
  files_kept : KeepsFilesBut (IsWrittenBy (came_back c.depot_old c.depot_new)) c.depot_old.files c.depot_new.files
  files_kept = go (plan_of ran_as.bytes) ran_as.plan
    where
      go : (q : Result PlanMeant Refusal) → DoesPlan c h.causes most q → KeepsFilesBut (IsWrittenBy (came_back c.depot_old c.depot_new)) c.depot_old.files c.depot_new.files
      go (Ok plan) d = d.1.1.performs.devices.files
      go (Err refusal) d = absurd (some d.1.ends)

-- and the streams begin in their order, where as many may be open as the words tell
begun : (c : Call) (h : RunsStreams c) (width : ℕ) → command_of c.words ≡ Some (Run (Some width)) → c.ends ≢ [] → BeginInOrder width c.events
begun c h width asks some = go (plan_of (ran_as c h (Some width) asks some).bytes) (ran_as c h (Some width) asks some).plan
  where
    go : (q : Result PlanMeant Refusal) → DoesPlan c h.causes (Some width) q → BeginInOrder width c.events
    go (Ok plan) d = d.1.1.performs.ledger.given.pace.begins
    go (Err refusal) d = absurd (some d.1.ends)

pub emptied_unopened_refused : ¬ (RunsStreams emptied_unopened)
emptied_unopened_refused h =
    ⊎_elim
    (λ w. among_nil w.1)
    (λ e. let n = ap (λ o. length (bytes_of o)) e in omega (arith, n))
    (files_kept emptied_unopened h None run_asks (an_end _ _) b)

pub out_of_turn_refused : ¬ (RunsStreams out_of_turn)
out_of_turn_refused h = let l = begun out_of_turn h 1 turn_asks (an_end _ _) (take 3 second_first_ledger) _ _ 1 refl refl in omega (arith, l)
