-- Each call of run with groups or a list and one thing wrong is refused.
use Rattle.std.proofs.Common.{◌≡◌, ◌≢◌, ℕ, suc, List, [], ◌∷◌, map, length, Ok, None, Some, refl, sym, ap, ◌∙◌, subst, arith}
use Rattle.chunk_core.specs.Outcomes.{Done}
use Rattle.chunk_core.specs.Tables.{no_values}
use Rattle.device_port.specs.Device.{DeviceTold}
use Rattle.device_port.specs.Sink.{SinkTold}
use Rattle.pull_nodes.specs.Runs.{IsRun}
use Rattle.pipeline_desc.specs.Meant.{listed_stream}
use Rattle.pipeline_desc.specs.WorkedParts.{list_of}
use Rattle.res_ledger.specs.declared.event.StreamNo.{StreamNo}
use Rattle.res_ledger.specs.declared.event.StreamNo.TheVariants.{Outer}
use Rattle.run_rules.specs.declared.end.EndOf.{EndOf}
use Rattle.run_rules.specs.Listing.{IsListing, ListedLines, listing_of}
use Rattle.run_rules.specs.Run.{Performs, Ran}
use Rattle.run_rules.specs.Work.{RunRecord, Stream, names_from}
use Rattle.plan_work.specs.Listed.{ListRuns, is_bad_line, lister_of}
use Rattle.plan_work.specs.Plans.{run_work, stream_of}
use Rattle.run_laws.specs.Files.{path_a}
use Rattle.run_laws.specs.Lists.{list_bytes, path_l}
use Rattle.run_laws.specs.Tables.{path_b}
use Rattle.run_laws.specs.UnfitLists.{line_before, line_left}
use Rattle.run_laws.proofs.Judging.{ran}
use Rattle.run_laws.proofs.ListFaults.{list_within}
use Rattle.run_laws.proofs.ListRuns.{two_lines, two_spelled}
use Rattle.run_laws.proofs.UnfitLists.{done_is}
use Rattle.flume_cli.specs.Headline.{Call, RunsStreams, TellsPlan, run_of_call}
use Rattle.headline_laws.specs.Listed.{line_before_read, line_before_text, line_forgotten, line_forgotten_text, list_call, list_description, list_plan, other_group, other_group_refusal, other_group_run}
use Rattle.headline_laws.proofs.Asked.{done_of, run_asks}
use Rattle.headline_laws.proofs.Listing.{list_means, other_group_means}
use Rattle.headline_laws.proofs.Misdescribing.{done_for, nothing_done}
use Rattle.headline_laws.proofs.Refusing.{an_end, bytes_of}
use Rattle.headline_laws.proofs.Unruly.{ran_as}

-- the lines that were given streams are those of the list, where it is done
all_lines : (lines : List (List ℕ)) (d : DeviceTold) → d.content ≡ Some list_bytes → IsListing (lister_of list_plan lines (list_of path_l [])) (ListRuns d) Done → listing_of 64 (is_bad_line list_plan) two_lines Done ≡ record { lines = lines; end = Done }
all_lines lines d told (ys, g, run, is) =
    let end : g ≡ Done = done_is 64 (is_bad_line list_plan) ys g (ap (λ (l : ListedLines). l.end) is) in
    let whole : ys ≡ two_lines = (list_within list_bytes two_lines two_spelled d told ys g (subst (λ m. IsRun no_values (λ r. d) m ys g) run.1.3 run.2)).1 end in
    subst (λ l. listing_of 64 (is_bad_line list_plan) l Done ≡ record { lines = lines; end = Done }) whole (subst (λ e. listing_of 64 (is_bad_line list_plan) ys e ≡ record { lines = lines; end = Done }) end is)

abbrev streams_of_lines : List (List ℕ) → List Stream
streams_of_lines lines = map stream_of (map (listed_stream (list_of path_l [])) lines)

names_count : (k : ℕ) (lines : List (List ℕ)) → length (names_from k (streams_of_lines lines)) ≡ length lines
names_count k [] = refl
names_count k (l ∷ ls) = ap suc (names_count (suc k) ls)

-- The plan was run, for some lines, which are those of the list.

module _ (c : RunRecord) (text : List ℕ) (some : c.ends ≢ []) (h : RunsStreams (list_call c text)) where
  abbrev call : Call
  call = list_call c text

  told : TellsPlan list_plan call h.causes
  told = (done_for call h.causes list_description (Ok list_plan) refl list_means (ran_as call h None run_asks some)).1

  abbrev lines : List (List ℕ)
  lines = told.0

  abbrev run : RunRecord
  run = run_of_call call told.1.frames told.1.cut told.1.rest told.1.wanted

  did : Performs (run_work list_plan lines) run
  did = told.1.performs

  gone : Ran (run_work list_plan lines) run
  gone = ran (run_work list_plan lines) run some did

  names : map (λ (e : EndOf). e.who) c.ends ≡ Outer ∷ names_from 0 (streams_of_lines lines)
  names = gone.ends.named

some_before : line_before.ends ≢ []
some_before = an_end _ _

some_left : line_left.ends ≢ []
some_left = an_end _ _

pub line_before_refused : ¬ (RunsStreams line_before_read)
line_before_refused h =
    let r = gone line_before line_before_text some_before h in
    let told : (r.home 0).content ≡ Some list_bytes = r.rows.at_home.1 in
    let is = all_lines (lines line_before line_before_text some_before h) (r.home 0) told r.ends.outer.end.2.1 in
    let same : path_a ∷ path_b ∷ [] ≡ lines line_before line_before_text some_before h = ap (λ (l : ListedLines). l.lines) is in
    let few : Performs (run_work list_plan (path_a ∷ path_b ∷ [])) (run line_before line_before_text some_before h) = subst (λ ls. Performs (run_work list_plan ls) (run line_before line_before_text some_before h)) (sym same) (did line_before line_before_text some_before h) in
    let l = few.devices.few.1.0 in omega (arith, l)

pub line_forgotten_refused : ¬ (RunsStreams line_forgotten)
line_forgotten_refused h =
    let r = gone line_left line_forgotten_text some_left h in
    let told : (r.home 0).content ≡ Some list_bytes = r.rows.at_home.1 in
    let is = all_lines (lines line_left line_forgotten_text some_left h) (r.home 0) told r.ends.outer.end.2.1 in
    let two : 2 ≡ length (lines line_left line_forgotten_text some_left h) = ap (λ (l : ListedLines). length l.lines) is in
    let one : 2 ≡ suc (length (lines line_left line_forgotten_text some_left h)) = ap (λ (ks : List StreamNo). length ks) (names line_left line_forgotten_text some_left h) ∙ ap suc (names_count 0 (lines line_left line_forgotten_text some_left h)) in
    omega (arith, two, one)

pub other_group_run_refused : ¬ (RunsStreams other_group_run)
other_group_run_refused h =
    let d = nothing_done other_group_run h.causes other_group other_group_refusal refl other_group_means (done_of other_group_run h refl (omega arith)) in
    let e = ap (λ (s : SinkTold). length (bytes_of s.written)) d.out in omega (arith, e)
