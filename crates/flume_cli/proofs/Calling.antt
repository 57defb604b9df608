-- A call of each command, from what was done for it.
use Rattle.std.proofs.Common.{◌≡◌, ℕ, Bool, true, false, nat_lt, if◌then◌else◌, List, [], Option, Some, None, inl, inr, refl, sym, ap, subst, Result, Ok, Err}
use Rattle.std.proofs.lemmas.Bool.{false≢true}
use Rattle.device_port.specs.Source.{SourceTold}
use Rattle.device_port.specs.Depot.{DepotTold}
use Rattle.device_port.specs.Sink.{SinkTold, with_bytes}
use Rattle.device_port.proofs.Puts.{with_bytes_none}
use Rattle.command_words.specs.Words.{command_of}
use Rattle.command_words.specs.declared.asked.Asked.{Asked}
use Rattle.command_words.specs.declared.asked.Asked.TheVariants.{Cat, Run, Audit, Rotate}
use Rattle.pipeline_desc.specs.Meant.{PlanMeant}
use Rattle.pipeline_desc.specs.Plans.{plan_of}
use Rattle.pipeline_desc.specs.declared.refusal.Refusal.{Refusal}
use Rattle.cat_run.specs.Cat.{FramesAreWithin, RunsCat, and_one, cat_work, run_record_of}
use Rattle.rotate_rules.specs.Pieces.{rotate_work}
use Rattle.rotate_rules.specs.Rotation.{RotatesFiles}
use Rattle.plan_work.specs.Plans.{run_work}
use Rattle.par_join.specs.Plans.{RunsPlan}
use Rattle.cat_run.specs.declared.outcome.Outcome.{Outcome}
use Rattle.flume_cli.specs.declared.status.Status.{Status}
use Rattle.flume_cli.specs.declared.status.Status.TheVariants as status
use Rattle.flume_cli.specs.declared.report.Report.{Report}
use Rattle.flume_cli.specs.Status.{Causes, line_of, status_of, status_of_audit}
use Rattle.audit_run.specs.Audit.{IsAudit}
use Rattle.audit_run.specs.declared.reading.AuditEnd.{AuditEnd}
use Rattle.res_ledger.specs.declared.event.Event.{Event}
use Rattle.run_rules.specs.declared.end.EndOf.{EndOf}
use Rattle.flume_cli.specs.Input.{IsInput}
use Rattle.flume_cli.specs.Description.{ReadsInput, ReadsPlan, with_most}
use Rattle.flume_cli.specs.Headline.{AuditsLedger, Call, DidNothing, Does, DoesPlan, HasStatus, IsText, IsToldLine, KeepsSource, RunsStreams, asked_of, is_meant, run_of_call}
use Rattle.flume_cli.specs.Call.{call_of}
use Rattle.flume_cli.specs.Finish.{Reports, Tells}
use Rattle.run_rules.specs.Run.{Performs}
use Rattle.run_rules.specs.Work.{Work}
use Rattle.flume_cli.proofs.Telling.{DoesRun, kept, report_is, rose, run_told as run_told_by, work_tells_memory}

-- what was asked and done, where there was memory to read the words
pub done_for : (c : Call) (k : Causes) (asked : Option Asked) → k.early ≡ false → command_of c.words ≡ asked → Does c k asked → Does c k (asked_of c k)
done_for c k asked e is d = subst (λ b. Does c k (if b then None else command_of c.words)) (sym e) (subst (λ q. Does c k q) (sym is) d)

pub source_for : (c : Call) (k : Causes) (asked : Option Asked) → k.early ≡ false → command_of c.words ≡ asked → KeepsSource c k asked → KeepsSource c k (asked_of c k)
source_for c k asked e is d = subst (λ b. KeepsSource c k (if b then None else command_of c.words)) (sym e) (subst (λ q. KeepsSource c k q) (sym is) d)

-- cat was run and told
pub cat_told : (words : List (List ℕ)) (chunk : ℕ) (path : List ℕ) (src : SourceTold) (dold dnew : DepotTold) (so mid sn eold enew : SinkTold) (o : Outcome) (r : Report)
    → command_of words ≡ Some (Cat chunk path) → RunsCat path chunk dold dnew so mid o → Tells o mid sn eold enew r → RunsStreams (call_of words src src dold dnew so sn eold enew r)
cat_told words chunk path src dold dnew so mid sn eold enew o r asked runs told =
    let did : DoesRun (Performs (cat_work path)) dold dnew so mid o runs.frames runs.cut runs.rest = record { broke = runs.broke; performs = runs.performs; wrote = runs.wrote; begun = runs.begun; remembered = work_tells_memory (cat_work path) dold dnew runs.frames runs.cut runs.rest o runs.performs } in
    let t = run_told_by words src src dold dnew so mid sn eold enew o (Performs (cat_work path)) runs.frames runs.cut runs.rest (ap is_meant asked) (kept src.faults src.faults refl) did r told in
    let within : FramesAreWithin chunk t.tells.frames t.tells.cut =
    subst (λ fs. FramesAreWithin chunk fs t.tells.cut) (sym t.same_frames) (subst (λ f. FramesAreWithin chunk runs.frames f) (sym t.same_cut) runs.within) in
    let c : Call = call_of words src src dold dnew so sn eold enew r in
    record {
      causes = t.causes;
      status = t.status;
      source = source_for c t.causes (Some (Cat chunk path)) t.early asked (record { kept = refl; refused = t.refused });
      does = done_for c t.causes (Some (Cat chunk path)) t.early asked (t.tells, within);
    }

-- the source doesn't fail where it is read whole
quiet : (old new : SourceTold) (bytes : List ℕ) → IsInput old new bytes → nat_lt old.faults new.faults ≡ false
quiet old new bytes i = kept old.faults new.faults (ap (λ (s : SourceTold). s.faults) i.told)

-- a plan was run and told
pub run_told : (words : List (List ℕ)) (most : Option ℕ) (src src' : SourceTold) (dold dnew : DepotTold) (so mid sn eold enew : SinkTold) (o : Outcome) (r : Report) (plan ran : PlanMeant)
    → command_of words ≡ Some (Run most) → ReadsInput src src' (λ bytes. plan_of bytes ≡ Ok plan) → ran ≡ with_most most plan → RunsPlan ran dold dnew so mid o → Tells o mid sn eold enew r
    → RunsStreams (call_of words src src' dold dnew so sn eold enew r)
run_told words most src src' dold dnew so mid sn eold enew o r plan ran asked (bytes, input, is) same ran_plan told =
    let runs : RunsPlan (with_most most plan) dold dnew so mid o = subst (λ p. RunsPlan p dold dnew so mid o) same ran_plan in
    let work : Work = run_work (with_most most plan) runs.lines in
    let did : DoesRun (Performs work) dold dnew so mid o runs.frames runs.cut runs.rest = record { broke = runs.broke; performs = runs.performs; wrote = runs.wrote; begun = runs.begun; remembered = work_tells_memory work dold dnew runs.frames runs.cut runs.rest o runs.performs } in
    let t = run_told_by words src src' dold dnew so mid sn eold enew o (Performs work) runs.frames runs.cut runs.rest (ap is_meant asked) (quiet src src' bytes input) did r told in
    let c : Call = call_of words src src' dold dnew so sn eold enew r in
    record {
      causes = t.causes;
      status = t.status;
      source = source_for c t.causes (Some (Run most)) t.early asked tt;
      does = done_for c t.causes (Some (Run most)) t.early asked (inr (record { bytes = bytes; input = input; plan = subst (λ (q : Result PlanMeant Refusal). DoesPlan c t.causes most q) (sym is) (t.refused, (runs.lines, t.tells)) }));
    }

-- nothing was done and told
module _ (words : List (List ℕ)) (src src' : SourceTold) (depot : DepotTold) (out eold enew : SinkTold) where
  abbrev pub idle : Status → Call
  idle s = call_of words src src' depot depot out out eold enew (record { status = s; ends = []; ledger = [] })

  abbrev pub cause : Bool → Bool → Bool → Option Refusal → Bool → Causes
  cause early meant unread refused memory = record { early = early; words = meant; unread = unread; refused = refused; unwritten = false; memory = memory; faulty = false; unclean = false }

  pub nothing : (s : Status) → DidNothing (idle s)
  nothing s = record { depot = refl; out = refl; ends = refl; events = refl }

  pub status_is : (s : Status) (early meant unread : Bool) (refused : Option Refusal) (memory : Bool) → meant ≡ is_meant (command_of words) → unread ≡ nat_lt src.faults src'.faults
      → s ≡ status_of (cause early meant unread refused memory) → IsToldLine eold enew (line_of s) → HasStatus (idle s) (cause early meant unread refused memory)
  status_is s early meant unread refused memory known faults is line = record {
    words = known;
    unread = faults;
    unwritten = sym (kept out.faults out.faults refl);
    memory = λ h. absurd (false≢true h);
    faulty = refl;
    unclean = refl;
    status = is;
    line = line;
  }

  -- of a run, where no plan was read
  stopped : (s : Status) (most : Option ℕ) → command_of words ≡ Some (Run most) → ReadsPlan src src' (Err s) → IsToldLine eold enew (line_of s) → RunsStreams (idle s)
  stopped (status.Refused refusal) most asked (bytes, input, is) line =
      let k = cause false true false (Some refusal) false in
      record {
        causes = k;
        status = status_is (status.Refused refusal) false true false (Some refusal) false (sym (ap is_meant asked)) (sym (quiet src src' bytes input)) refl line;
        source = source_for (idle (status.Refused refusal)) k (Some (Run most)) refl asked tt;
        does = done_for (idle (status.Refused refusal)) k (Some (Run most)) refl asked (inr (record {
          bytes = bytes;
          input = input;
          plan = subst (λ (q : Result PlanMeant Refusal). DoesPlan (idle (status.Refused refusal)) k most q) (sym is) (refl, nothing (status.Refused refusal));
        }));
      }
  stopped status.Memory most asked taken line =
      let k = cause false true false None true in
      record {
        causes = k;
        status = status_is status.Memory false true false None true (sym (ap is_meant asked)) (sym (kept src.faults src'.faults (ap (λ (s : SourceTold). s.faults) taken.told))) refl line;
        source = source_for (idle status.Memory) k (Some (Run most)) refl asked tt;
        does = done_for (idle status.Memory) k (Some (Run most)) refl asked (inl (record { cause = inr refl; taken = taken; refused = refl; nothing = nothing status.Memory }));
      }
  stopped status.Unread most asked taken line =
      let k = cause false true true None false in
      record {
        causes = k;
        status = status_is status.Unread false true true None false (sym (ap is_meant asked)) (sym (rose src.faults src'.faults (ap (λ (s : SourceTold). s.faults) taken.told))) refl line;
        source = source_for (idle status.Unread) k (Some (Run most)) refl asked tt;
        does = done_for (idle status.Unread) k (Some (Run most)) refl asked (inl (record { cause = inl refl; taken = taken; refused = refl; nothing = nothing status.Unread }));
      }
  stopped status.Good most asked h line = absurd h
  stopped status.Faulty most asked h line = absurd h
  stopped status.BadWords most asked h line = absurd h
  stopped status.NotWritten most asked h line = absurd h
  stopped status.Unclean most asked h line = absurd h
  stopped status.Broken most asked h line = absurd h
  stopped (status.LedgerRefused refusal) most asked h line = absurd h
  stopped status.LedgerUnread most asked h line = absurd h

  -- what is reported
  pub idle_report : (s : Status) (r : Report) → Reports s [] [] eold enew r → RunsStreams (idle s) → RunsStreams (call_of words src src' depot depot out out eold enew r)
  idle_report s r f h = subst (λ x. RunsStreams (call_of words src src' depot depot out out eold enew x)) (sym (report_is r s [] [] f.status_is f.ends_are f.ledger_is)) h

  -- no plan was read, and the call was told
  pub stopped_told : (s : Status) (most : Option ℕ) (r : Report) → command_of words ≡ Some (Run most) → ReadsPlan src src' (Err s) → Reports s [] [] eold enew r → RunsStreams (call_of words src src' depot depot out out eold enew r)
  stopped_told s most r asked read f = idle_report s r f (stopped s most asked read f.line)

module _ (words : List (List ℕ)) (src : SourceTold) (depot : DepotTold) (out eold enew : SinkTold) (r : Report) where
  -- the words mean nothing
  pub nothing_told : command_of words ≡ None → Reports status.BadWords [] [] eold enew r → RunsStreams (call_of words src src depot depot out out eold enew r)
  nothing_told asked f =
      let k = cause words src src depot out eold enew false false false None false in
      let c : Call = idle words src src depot out eold enew status.BadWords in
      idle_report words src src depot out eold enew status.BadWords r f (record {
        causes = k;
        status = status_is words src src depot out eold enew status.BadWords false false false None false (sym (ap is_meant asked)) (sym (kept src.faults src.faults refl)) refl f.line;
        source = source_for c k None refl asked (record { kept = refl; refused = refl });
        does = done_for c k None refl asked (nothing words src src depot out eold enew status.BadWords);
      })

  -- there was no memory to read the words
  pub early_told : Reports status.Memory [] [] eold enew r → RunsStreams (call_of words src src depot depot out out eold enew r)
  early_told f =
      let k = cause words src src depot out eold enew true (is_meant (command_of words)) false None true in
      idle_report words src src depot out eold enew status.Memory r f (record {
        causes = k;
        status = status_is words src src depot out eold enew status.Memory true (is_meant (command_of words)) false None true refl (sym (kept src.faults src.faults refl)) refl f.line;
        source = record { kept = refl; refused = refl };
        does = nothing words src src depot out eold enew status.Memory;
      })

-- a rotation was done and told
pub rotation_told : (words : List (List ℕ)) (n : ℕ) (path prefix : List ℕ) (src : SourceTold) (dold dnew : DepotTold) (so sn eold enew : SinkTold) (o : Outcome) (r : Report)
    → command_of words ≡ Some (Rotate n path prefix) → RotatesFiles path prefix n (run_record_of dold dnew [] None [] o) → o.sink_failed ≡ false → Tells o so sn eold enew r
    → RunsStreams (call_of words src src dold dnew so sn eold enew r)
rotation_told words n path prefix src dold dnew so sn eold enew o r asked rotates unbroken told =
    let did : DoesRun (Performs (rotate_work path prefix n)) dold dnew so so o [] None [] = record {
      broke = sym unbroken;
      performs = rotates.performs;
      wrote = subst (λ b. so ≡ record (with_bytes so []) { faults = and_one b so.faults }) (sym unbroken) (sym (with_bytes_none so));
      begun = λ e. (unbroken, rotates.rotation.begun e);
      remembered = work_tells_memory (rotate_work path prefix n) dold dnew [] None [] o rotates.performs;
    } in
    let t = run_told_by words src src dold dnew so so sn eold enew o (Performs (rotate_work path prefix n)) [] None [] (ap is_meant asked) (kept src.faults src.faults refl) did r told in
    let c : Call = call_of words src src dold dnew so sn eold enew r in
    let text : IsText c t.causes [] None [] o.memory =
    subst (λ w. IsText c t.causes [] None [] w) t.same_wanted
    (subst (λ b. IsText c t.causes [] None b t.tells.wanted) t.same_rest
    (subst (λ f. IsText c t.causes [] f t.tells.rest t.tells.wanted) t.same_cut (subst (λ fs. IsText c t.causes fs t.tells.cut t.tells.rest t.tells.wanted) t.same_frames t.tells.text))) in
    let reported : RotatesFiles path prefix n (run_of_call c [] None [] o.memory) =
    subst (λ (es : List EndOf). RotatesFiles path prefix n (record { depot_old = dold; depot_new = dnew; ends = es; events = r.ledger; frames = []; cut = None; rest = []; memory = o.memory })) (sym told.report.ends_are)
    (subst (λ (L : List Event). RotatesFiles path prefix n (record { depot_old = dold; depot_new = dnew; ends = o.ends; events = L; frames = []; cut = None; rest = []; memory = o.memory })) (sym told.report.ledger_is) rotates) in
    record {
      causes = t.causes;
      status = t.status;
      source = source_for c t.causes (Some (Rotate n path prefix)) t.early asked (record { kept = refl; refused = t.refused });
      does = done_for c t.causes (Some (Rotate n path prefix)) t.early asked (record { wanted = o.memory; rotates = reported; text = text });
    }

-- a ledger was audited, and the call was told
pub audit_told : (words : List (List ℕ)) (s t : SourceTold) (depot : DepotTold) (o p eold enew : SinkTold) (L : List Event) (end : AuditEnd) (r : Report) → command_of words ≡ Some Audit → IsAudit s t o p L end
    → Reports (status_of_audit end) [] L eold enew r → AuditsLedger (call_of words s t depot depot o p eold enew r)
audit_told words s t depot o p eold enew L end r asked audit f = record {
  asked = asked;
  kept = refl;
  ends = f.ends_are;
  end = end;
  audit = subst (λ M. IsAudit s t o p M end) (sym f.ledger_is) audit;
  status = f.status_is;
  line = subst (λ x. IsToldLine eold enew (line_of x)) (sym f.status_is) f.line;
}
