-- What a call printed last.
use Rattle.std.proofs.Common.{◌≡◌, ℕ, Bool, false, List, [], ◌++◌, Option, Some, None, Ok, Err, ap, sym, ◌∙◌, subst, ⊎_elim}
use Rattle.std.specs.Prelude.{if◌then◌else◌}
use Rattle.std.proofs.lemmas.Bool.{both_ways}
use Rattle.chunk_core.specs.Texts.{Frame, frames_text}
use Rattle.res_ledger.specs.Texts.{ledger_text}
use Rattle.device_port.specs.Sink.{with_bytes}
use Rattle.command_words.specs.Words.{command_of}
use Rattle.command_words.specs.declared.asked.Asked.{Asked}
use Rattle.command_words.specs.declared.asked.Asked.TheVariants.{Cat, Run}
use Rattle.run_rules.specs.Run.{IsUnmade, Performs, Ran}
use Rattle.run_rules.specs.Texts.{tail_text}
use Rattle.run_rules.specs.Work.{Work}
use Rattle.cat_run.specs.Cat.{cat_work}
use Rattle.plan_work.specs.Plans.{run_work}
use Rattle.pipeline_desc.specs.declared.refusal.Refusal.{Refusal}
use Rattle.pipeline_desc.specs.Meant.{PlanMeant}
use Rattle.pipeline_desc.specs.Plans.{plan_of}
use Rattle.pipeline_desc.specs.Reading.{Reading}
use Rattle.flume_cli.specs.Status.{Causes}
use Rattle.flume_cli.specs.Description.{with_most}
use Rattle.flume_cli.specs.Headline.{AuditsLedger, Call, Does, DoesPlan, IsText, RunsInput, RunsStreams, StopsBefore, TellsWork, run_of_call}
use Rattle.audit_laws.specs.Printed.{AskForStreams, IsPrintedWhole, LedgersArePrinted, PrintsLast}
use Rattle.audit_laws.proofs.Cleanness.{no_audit}
use Rattle.audit_laws.proofs.Statuses.{IsCalm, calm_of, said_whole}

none_is_some : (r : Refusal) → ◌≡◌ {A = Option Refusal} None (Some r) → ⊥
none_is_some r e = cc

module _ (c : Call) (k : Causes) (calm : IsCalm k) (whole : IsPrintedWhole c.status) where
  -- the frames, and behind them the tail
  told : (work : Work) (F : List Frame) (cut : Option Frame) (rest : List ℕ) (wanted : Bool) → Performs work (run_of_call c F cut rest wanted) → IsText c k F cut rest wanted → PrintsLast c (ledger_text c.events)
  told work F None rest wanted p t =
      let none : rest ≡ [] = ⊎_elim (λ (x : IsUnmade (run_of_call c F None rest wanted)). x.rest) (λ (x : Ran work (run_of_call c F None rest wanted)). x.outputs.rest) p.ran in
      let said : t.said ≡ tail_text c.ends c.events = said_whole k t.said (tail_text c.ends c.events) c.status wanted calm whole t.tail in
      (F, t.written ∙ ap (λ b. (with_bytes c.out_old (frames_text F ++ b)).written) (ap (λ b. b ++ t.said) none ∙ said))
  told work F (Some f) rest wanted p t = absurd (both_ways k.unwritten calm.unwritten t.tail.0)

  work_told : (work : Work) → TellsWork work c k → PrintsLast c (ledger_text c.events)
  work_told work t = told work t.frames t.cut t.rest t.wanted t.performs t.text

  plan_told : (most : Option ℕ) (plan : Reading PlanMeant) → DoesPlan c k most plan → PrintsLast c (ledger_text c.events)
  plan_told most (Ok plan) d = work_told (run_work (with_most most plan) d.1.0) d.1.1
  plan_told most (Err refusal) d = absurd (none_is_some refusal (sym calm.refused ∙ d.0))

  cat_told : (chunk : ℕ) (path : List ℕ) → Does c k (Some (Cat chunk path)) → PrintsLast c (ledger_text c.events)
  cat_told chunk path d = work_told (cat_work path) d.0

  run_told : (most : Option ℕ) → Does c k (Some (Run most)) → PrintsLast c (ledger_text c.events)
  run_told most d =
      ⊎_elim
      (λ (x : StopsBefore c k). absurd (⊎_elim (both_ways k.unread calm.unread) (both_ways k.memory calm.memory) x.cause))
      (λ (x : RunsInput c k most). plan_told most (plan_of x.bytes) x.plan)
      d

-- what was done for what the words ask, since there was memory to read them
done_for : (c : Call) (k : Causes) (asked : Option Asked) → command_of c.words ≡ asked → k.early ≡ false → Does c k (if k.early then None else command_of c.words) → Does c k asked
done_for c k asked is e d = subst (λ q. Does c k q) is (subst (λ b. Does c k (if b then None else command_of c.words)) e d)

streams_printed : (c : Call) → RunsStreams c → AskForStreams c.words → IsPrintedWhole c.status → PrintsLast c (ledger_text c.events)
streams_printed c h asks whole =
    let k = h.causes in
    let calm = calm_of k c.status h.status.status whole in
    ⊎_elim
    (λ x. cat_told c k calm whole x.0 x.1 (done_for c k (Some (Cat x.0 x.1)) x.2 calm.early h.does))
    (λ x. run_told c k calm whole x.0 (done_for c k (Some (Run x.0)) x.1 calm.early h.does))
    asks

pub ledgers_printed : LedgersArePrinted
ledgers_printed c h asks whole = ⊎_elim (λ (x : RunsStreams c). streams_printed c x asks whole) (λ (x : AuditsLedger c). absurd (no_audit c.words asks x.asked)) h
