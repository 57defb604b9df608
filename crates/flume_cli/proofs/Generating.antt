-- A case that was run and summed up, and how it was told.
use Rattle.std.proofs.Common.{◌≡◌, ◌⊎◌, ℕ, ◌≤◌, ◌||◌, Bool, true, false, nat_lt, List, [], ◌∷◌, ◌++◌, Option, Some, None, is_some, refl, sym, ap, ◌∙◌, subst, inl, inr, ⊎_elim, append-nil}
use Rattle.std.proofs.lemmas.Bool.{both_ways}
use Rattle.std.specs.List.{AllByRecursion, list_any as any}
use Rattle.chunk_core.specs.Texts.{Frame, frames_text}
use Rattle.chunk_core.specs.declared.code.How.TheVariants as how
use Rattle.res_ledger.specs.declared.event.Event.{Event}
use Rattle.device_port.specs.Depot.{DepotTold}
use Rattle.device_port.specs.Device.{faults_of}
use Rattle.device_port.specs.Sink.{BreaksOff, SinkTold, with_bytes}
use Rattle.device_port.specs.Source.{SourceTold}
use Rattle.command_words.specs.Words.{command_of}
use Rattle.command_words.specs.declared.asked.Asked.TheVariants.{Gen}
use Rattle.pipeline_desc.specs.Meant.{PlanMeant}
use Rattle.run_rules.specs.declared.end.EndOf.{EndOf}
use Rattle.run_rules.specs.Devices.{came_back}
use Rattle.run_rules.specs.Facts.{has_event, is_failed, is_fault, is_memory}
use Rattle.run_rules.specs.Run.{IsUnmade, Ran}
use Rattle.plan_work.specs.Plans.{run_work}
use Rattle.par_join.specs.Plans.{RunsPlan}
use Rattle.cat_run.specs.declared.outcome.Outcome.{Outcome}
use Rattle.cat_run.proofs.Unmade.{performs_nothing}
use Rattle.gen_case.specs.Plan.{plan_of_case}
use Rattle.gen_case.specs.Runs.{depot_of}
use Rattle.gen_case.specs.Sure.{are_unfailed}
use Rattle.gen_case.specs.declared.case.Case.{Case}
use Rattle.flume_cli.specs.declared.report.Report.{Report}
use Rattle.flume_cli.specs.declared.status.Status.{Status}
use Rattle.flume_cli.specs.declared.status.Status.TheVariants as status
use Rattle.flume_cli.specs.Call.{call_of}
use Rattle.flume_cli.specs.Finish.{PrintsText, TellsText}
use Rattle.flume_cli.specs.Generated.{Generates, IsWholeCase, RunsCase, Sums, case_run, text_of_run}
use Rattle.flume_cli.specs.Headline.{Call, Does, IsToldLine, KeepsSource, PrintsNothing, PrintsSummary, RunsStreams, is_meant}
use Rattle.flume_cli.specs.Status.{Causes, line_of, status_of}
use Rattle.flume_cli.proofs.CaseDevices.{no_faults}
use Rattle.flume_cli.proofs.CaseRuns.{ends_unfailed, no_rest, numbered, whole}
use Rattle.flume_cli.proofs.Telling.{kept, report_is, rose}

-- no memory to begin with
nothing_generated : (case : Case) → Generates case [] [] None
nothing_generated case = record {
  runs = record { depot = depot_of case; frames = []; cut = None; rest = []; memory = true; performs = performs_nothing (run_work (plan_of_case case) []) (depot_of case); unfailed = refl };
  summed = tt;
}

pub unmade_generated : (case : Case) (ends : List EndOf) (L : List Event) → ends ≡ [] → L ≡ [] → Generates case ends L None
unmade_generated case ends L e l = subst (λ (x : List EndOf). Generates case x L None) (sym e) (subst (λ (x : List Event). Generates case [] x None) (sym l) (nothing_generated case))

not_cut : (cut : Option Frame) → is_some cut ≡ false → cut ≡ None
not_cut None h = refl
not_cut (Some f) h = cc

abbrev no_bytes : SinkTold
no_bytes = record { written = Some []; faults = 0 }

module _ (case : Case) (few : case.streams ≤ 64) (short : case.lines ≤ 100000) (depot : DepotTold) (sn : SinkTold) (o : Outcome) (quiet : are_unfailed depot.retired ≡ true) (did : RunsPlan (plan_of_case case) (depot_of case) depot no_bytes sn o) where
  sound : AllByRecursion (λ d. faults_of d ≡ 0) (came_back (depot_of case) depot)
  sound = no_faults case depot o.ledger quiet did.performs.devices

  unfailed : any (λ e. is_fault e.how) o.ends ≡ false
  unfailed =
      ⊎_elim
      (λ (u : IsUnmade (case_run case depot o.ends o.ledger did.frames did.cut did.rest o.memory)). ap (λ (es : List EndOf). any (λ (e : EndOf). is_fault e.how) es) u.ends)
      (λ r. ends_unfailed case few short depot o.ends o.ledger did.frames did.cut did.rest o.memory sound r)
      did.performs.ran

  abbrev runs : RunsCase case o.ends o.ledger
  runs = record { depot = depot; frames = did.frames; cut = did.cut; rest = did.rest; memory = o.memory; performs = did.performs; unfailed = unfailed }

  module _ (text : List ℕ) (sums : Sums case o sn (Some text)) where
    uncut : did.cut ≡ None
    uncut = not_cut did.cut (did.broke ∙ sums.written)

    ran : Ran (run_work (plan_of_case case) []) (case_run case depot o.ends o.ledger did.frames did.cut did.rest o.memory)
    ran = ⊎_elim (λ u. absurd (both_ways o.memory sums.memory u.memory)) (λ r. r) did.performs.ran

    written : sn.written ≡ Some (frames_text did.frames)
    written =
        let rest = no_rest case few short depot o.ends o.ledger did.frames did.cut did.rest o.memory sound ran uncut sums.memory in
        ap (λ (s : SinkTold). s.written) did.wrote ∙ (ap (λ (r : List ℕ). Some (frames_text did.frames ++ r)) rest ∙ ap (λ (b : List ℕ). Some b) (append-nil (frames_text did.frames)))

    summed : IsWholeCase case o.ends o.ledger did.frames × (text ≡ text_of_run case did.frames o.ledger)
    summed = (
      whole case few short depot o.ends o.ledger did.frames did.cut did.rest o.memory sound ran uncut sums.memory,
      sums.text did.frames (numbered case few short depot o.ends o.ledger did.frames did.cut did.rest o.memory sound ran uncut sums.memory) written,
    )

  generated : (text : Option (List ℕ)) → Sums case o sn text → Generates case o.ends o.ledger text
  generated None sums = record { runs = runs; summed = tt }
  generated (Some text) sums = record { runs = runs; summed = summed text sums }

-- a case that was run, from what its run is told
pub case_generated : (case : Case) (plan : PlanMeant) (dold dnew : DepotTold) (so sn : SinkTold) (o : Outcome) (text : Option (List ℕ)) → case.streams ≤ 64 → case.lines ≤ 100000 → plan ≡ plan_of_case case → dold ≡ depot_of case → so ≡ no_bytes
    → are_unfailed dnew.retired ≡ true → RunsPlan plan dold dnew so sn o → Sums case o sn text → Generates case o.ends o.ledger text
case_generated case plan dold dnew so sn o text few short p d s quiet did sums =
    generated case few short dnew sn o quiet (subst (λ (x : PlanMeant). RunsPlan x (depot_of case) dnew no_bytes sn o) p (subst (λ (x : DepotTold). RunsPlan plan x dnew no_bytes sn o) d (subst (λ (x : SinkTold). RunsPlan plan dold dnew x sn o) s did))) text sums

-- no end tells of memory where all are done
remembers_none : (es : List EndOf) → AllByRecursion (λ e. e.how ≡ how.Done) es → any (λ e. is_memory e.how) es ≡ false
remembers_none [] h = refl
remembers_none (e ∷ es) h = λ i. ap is_memory h.0 i || remembers_none es h.1 i

module _ (words : List (List ℕ)) (seed streams lines : ℕ) (src : SourceTold) (depot : DepotTold) (so sn eold enew : SinkTold) (o : Outcome) (asked : command_of words ≡ Some (Gen seed streams lines)) where
  abbrev case : Case
  case = record { seed = seed; streams = streams; lines = lines }

  abbrev told : Status → Call
  told s = call_of words src src depot depot so sn eold enew (record { status = s; ends = o.ends; ledger = o.ledger })

  abbrev causes : Bool → Bool → Bool → Bool → Causes
  causes u m f n = record { early = false; words = true; unread = false; refused = None; unwritten = u; memory = m; faulty = f; unclean = n }

  tells : (s : Status) (u m f n : Bool) → u ≡ nat_lt so.faults sn.faults → f ≡ any (λ e. is_fault e.how) o.ends → n ≡ has_event is_failed o.ledger → (any (λ e. is_memory e.how) o.ends ≡ true → m ≡ true) → s ≡ status_of (causes u m f n)
      → IsToldLine eold enew (line_of s) → (runs : RunsCase case o.ends o.ledger) → PrintsNothing (told s) (causes u m f n) ⊎ PrintsSummary case (told s) (causes u m f n) runs.frames → RunsStreams (told s)
  tells s u m f n up faulty unclean more is line runs prints =
      let k = causes u m f n in
      record {
        causes = k;
        status = record {
          words = sym (ap is_meant asked);
          unread = sym (kept src.faults src.faults refl);
          unwritten = up;
          memory = more;
          faulty = faulty;
          unclean = unclean;
          status = is;
          line = line;
        };
        source = subst (λ q. KeepsSource (told s) k q) (sym asked) (record { kept = refl; refused = refl });
        does = subst (λ q. Does (told s) k q) (sym asked) (record { kept = refl; runs = runs; told = prints });
      }

  tells_nothing : sn ≡ so → RunsCase case o.ends o.ledger → IsToldLine eold enew (line_of status.Memory) → RunsStreams (told status.Memory)
  tells_nothing e runs line =
      tells status.Memory false true (any (λ e. is_fault e.how) o.ends) (has_event is_failed o.ledger) (sym (kept so.faults sn.faults (ap (λ (x : SinkTold). x.faults) e))) refl refl (λ h. refl) refl line runs (inl (record { memory = refl; out = e }))

  module _ (text : List ℕ) (runs : RunsCase case o.ends o.ledger) (all : IsWholeCase case o.ends o.ledger runs.frames) (is : text ≡ text_of_run case runs.frames o.ledger) where
    done_remember : any (λ e. is_memory e.how) o.ends ≡ true → false ≡ true
    done_remember h = absurd (both_ways (any (λ (e : EndOf). is_memory e.how) o.ends) (remembers_none o.ends all.done) h)

    tells_summary : sn ≡ with_bytes so text → IsToldLine eold enew (line_of status.Good) → RunsStreams (told status.Good)
    tells_summary e line =
        tells status.Good false false false false (sym (kept so.faults sn.faults (ap (λ (x : SinkTold). x.faults) e))) (sym runs.unfailed) (sym all.clean) done_remember refl line runs
        (inr (record { memory = refl; whole = all; printed = inl (subst (λ b. sn ≡ with_bytes so b) is e) }))

    tells_front : BreaksOff so sn text → IsToldLine eold enew (line_of status.NotWritten) → RunsStreams (told status.NotWritten)
    tells_front b line =
        tells status.NotWritten true false false false (sym (rose so.faults sn.faults (ap (λ (x : SinkTold). x.faults) b.told))) (sym runs.unfailed) (sym all.clean) done_remember refl line runs
        (inr (record { memory = refl; whole = all; printed = inr (subst (λ x. BreaksOff so sn x) is b) }))

  tells_any : (text : Option (List ℕ)) (s : Status) → Generates case o.ends o.ledger text → PrintsText text so sn s → IsToldLine eold enew (line_of s) → RunsStreams (told s)
  tells_any None s g (is, kept) line = subst (λ x. RunsStreams (told x)) (sym is) (tells_nothing kept g.runs (subst (λ x. IsToldLine eold enew (line_of x)) is line))
  tells_any (Some text) s g (inl (is, wrote)) line = subst (λ x. RunsStreams (told x)) (sym is) (tells_summary text g.runs g.summed.0 g.summed.1 wrote (subst (λ x. IsToldLine eold enew (line_of x)) is line))
  tells_any (Some text) s g (inr (is, broke)) line = subst (λ x. RunsStreams (told x)) (sym is) (tells_front text g.runs g.summed.0 g.summed.1 broke (subst (λ x. IsToldLine eold enew (line_of x)) is line))

  -- a case was run and told
  pub case_told : (text : Option (List ℕ)) (r : Report) → Generates case o.ends o.ledger text → TellsText text o so sn eold enew r → RunsStreams (call_of words src src depot depot so sn eold enew r)
  case_told text r g t =
      subst (λ x. RunsStreams (call_of words src src depot depot so sn eold enew x)) (sym (report_is r r.status o.ends o.ledger refl t.report.ends_are t.report.ledger_is)) (tells_any text r.status g t.printed t.report.line)
