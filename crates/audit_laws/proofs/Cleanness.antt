-- What a call reports is clean.
use Rattle.std.proofs.Common.{◌≡◌, ℕ, Bool, true, false, List, [], Option, Some, None, Ok, Err, refl, sym, subst, ⊎_elim, ◌∙◌}
use Rattle.std.specs.Prelude.{if◌then◌else◌}
use Rattle.res_ledger.specs.declared.event.Event.{Event}
use Rattle.ledger_verdict.specs.Verdict.{IsVerdict}
use Rattle.ledger_verdict.specs.declared.verdict.Verdict.TheVariants.{Clean}
use Rattle.ledger_verdict.proofs.Verdicts.{clean}
use Rattle.command_words.specs.Words.{command_of}
use Rattle.command_words.specs.declared.asked.Asked.{Asked}
use Rattle.command_words.specs.declared.asked.Asked.TheVariants.{Cat, Run, Audit}
use Rattle.run_rules.specs.Work.{Work}
use Rattle.cat_run.specs.Cat.{cat_work}
use Rattle.plan_work.specs.Plans.{run_work}
use Rattle.pipeline_desc.specs.Meant.{PlanMeant}
use Rattle.pipeline_desc.specs.Plans.{plan_of}
use Rattle.pipeline_desc.specs.Reading.{Reading}
use Rattle.flume_cli.specs.Status.{Causes}
use Rattle.flume_cli.specs.Description.{with_most}
use Rattle.flume_cli.specs.Headline.{AuditsLedger, Call, DidNothing, Does, DoesPlan, RunsInput, RunsStreams, StopsBefore, TellsWork}
use Rattle.audit_laws.specs.Printed.{AskForStreams, LedgersAreClean}

-- the ledger without events
empty_clean : IsVerdict [] Clean
empty_clean = clean [] refl refl refl

module _ (c : Call) (k : Causes) where
  -- where nothing was done
  nothing_clean : DidNothing c → IsVerdict c.events Clean
  nothing_clean d = subst (λ (L : List Event). IsVerdict L Clean) (sym d.events) empty_clean

  -- where a work was done
  work_clean : (work : Work) → TellsWork work c k → IsVerdict c.events Clean
  work_clean work t = let r = t.performs.ledger in (r.legal, r.complete, r.ordered)

  plan_clean : (most : Option ℕ) (plan : Reading PlanMeant) → DoesPlan c k most plan → IsVerdict c.events Clean
  plan_clean most (Ok plan) d = work_clean (run_work (with_most most plan) d.1.0) d.1.1
  plan_clean most (Err refusal) d = nothing_clean d.1

  cat_clean : (chunk : ℕ) (path : List ℕ) → Does c k (Some (Cat chunk path)) → IsVerdict c.events Clean
  cat_clean chunk path d = work_clean (cat_work path) d.0

  run_clean : (most : Option ℕ) → Does c k (Some (Run most)) → IsVerdict c.events Clean
  run_clean most d = ⊎_elim (λ (x : StopsBefore c k). nothing_clean x.nothing) (λ (x : RunsInput c k most). plan_clean most (plan_of x.bytes) x.plan) d

  -- where the words ask for this, unless there was no memory to read them
  asked_clean : (asked : Option Asked) → command_of c.words ≡ asked → (Does c k asked → IsVerdict c.events Clean) → (b : Bool) → Does c k (if b then None else command_of c.words) → IsVerdict c.events Clean
  asked_clean asked is go true d = nothing_clean d
  asked_clean asked is go false d = go (subst (λ q. Does c k q) is d)

streams_clean : (c : Call) → RunsStreams c → AskForStreams c.words → IsVerdict c.events Clean
streams_clean c h asks =
    let k = h.causes in
    ⊎_elim
    (λ x. asked_clean c k (Some (Cat x.0 x.1)) x.2 (cat_clean c k x.0 x.1) k.early h.does)
    (λ x. asked_clean c k (Some (Run x.0)) x.1 (run_clean c k x.0) k.early h.does)
    asks

cat_or_audit : (chunk : ℕ) (path : List ℕ) → ◌≡◌ {A = Option Asked} (Some (Cat chunk path)) (Some Audit) → ⊥
cat_or_audit chunk path e = cc

run_or_audit : (most : Option ℕ) → ◌≡◌ {A = Option Asked} (Some (Run most)) (Some Audit) → ⊥
run_or_audit most e = cc

-- the words don't ask for an audit
pub no_audit : (words : List (List ℕ)) → AskForStreams words → command_of words ≡ Some Audit → ⊥
no_audit words asks e = ⊎_elim (λ x. cat_or_audit x.0 x.1 (sym x.2 ∙ e)) (λ x. run_or_audit x.0 (sym x.1 ∙ e)) asks

pub ledgers_clean : LedgersAreClean
ledgers_clean c h asks = ⊎_elim (λ (x : RunsStreams c). streams_clean c x asks) (λ (x : AuditsLedger c). absurd (no_audit c.words asks x.asked)) h
