-- A call of eval that went as it should.
use Rattle.std.proofs.Common.{◌≡◌, ◌≢◌, ℕ, suc, zero, true, false, List, [], ◌∷◌, ◌++◌, map, refl, sym, ap, ◌∙◌, inl, inr, arith, Some, None, is_ok, subst, ⊎_elim}
use Rattle.std.specs.Prelude.{codes}
use Rattle.std.specs.Fmt.{digits}
use Rattle.std.specs.List.{AllByRecursion}
use Rattle.std.proofs.lemmas.Bool.{false≢true}
use Rattle.std.proofs.lemmas.List.Sorted.{IsPermutation-refl}
use Rattle.chunk_core.specs.Elements.{Byte, Element, Line}
use Rattle.chunk_core.specs.Lists.{IsAmong}
use Rattle.chunk_core.specs.Lists.IsAmong.{here, there}
use Rattle.chunk_core.specs.Outcomes.{Cut, Done}
use Rattle.chunk_core.specs.Tables.{no_values}
use Rattle.chunk_core.specs.declared.code.Exit.TheVariants.{Succeeded}
use Rattle.chunk_core.specs.declared.code.How.TheVariants as how
use Rattle.chunk_core.proofs.Each.{among_each}
use Rattle.chunk_core.proofs.Members.{among_cons, among_nil}
use Rattle.command_words.specs.Words.{command_of}
use Rattle.command_words.specs.declared.asked.Asked.TheVariants.{Eval}
use Rattle.device_port.specs.Depot.{content_at}
use Rattle.device_port.specs.Device.{DeviceTold, to_read}
use Rattle.pipeline_desc.specs.Reading.{Reading}
use Rattle.pipeline_desc.specs.declared.step.Step.{Step}
use Rattle.pull_nodes.specs.Lines.{ended_lines, open_line, without_pairs}
use Rattle.res_ledger.specs.Ledger.{NotesClose}
use Rattle.res_ledger.specs.declared.event.Event.{Event}
use Rattle.res_ledger.specs.declared.event.StreamNo.TheVariants.{Inner}
use Rattle.res_ledger.specs.declared.event.What.TheVariants.{Acquire, Close, Final}
use Rattle.res_ledger.proofs.Judged.{complete_sound, legal_sound}
use Rattle.res_ledger.proofs.Ordering.{ordered_sound}
use Rattle.res_ledger.proofs.Stamps.{stamped_sound}
use Rattle.run_rules.specs.Devices.{DevicesAccounted}
use Rattle.run_rules.specs.Ends.{HaveEnds}
use Rattle.run_rules.specs.Facts.{at}
use Rattle.run_rules.specs.Homes.{AreLeftAlone, HaveHomes}
use Rattle.run_rules.specs.Rules.{IsOurs, KeepsRules}
use Rattle.run_rules.specs.Texts.{tail_text}
use Rattle.run_rules.specs.Work.{RunRecord, Work, owners_of}
use Rattle.run_rules.specs.declared.end.EndOf.{EndOf}
use Rattle.eval_rules.specs.Evaluation.{Evaluates, IsAnswered, IsUnfailed, LineRuns, PrintsAnswer, reading_work}
use Rattle.flume_cli.specs.Status.{Causes}
use Rattle.flume_cli.specs.Headline.{DoesChain, RunsStreams, is_meant}
use Rattle.flume_cli.proofs.Calling.{done_for, source_for}
use Rattle.headline_laws.specs.Calls.{a, depot_after, depot_before, end_of_0, event, one_row_ledger}
use Rattle.headline_laws.specs.Evaluated.{lines_device, two_groups, two_lines}
use Rattle.headline_laws.proofs.Evaluating.{answer_ends, answer_frames, answer_is, chain_is, eval_asks, splitting}
use Rattle.headline_laws.proofs.Holding.{exits_of, is_there, never_leaves, none_some, one_apart, reads_only}
use Rattle.headline_laws.proofs.Refusing.{an_end}

abbrev work : Work
work = reading_work a

abbrev L : List Event
L = one_row_ledger Succeeded true

abbrev run : RunRecord
run = record { depot_old = depot_before two_lines; depot_new = depot_after two_lines (lines_device ∷ []); ends = end_of_0 how.Done ∷ []; events = L; frames = answer_frames; cut = None; rest = []; memory = false }

abbrev home : ℕ → DeviceTold
home r = lines_device

acquire_ours : IsOurs work (event 0 (Inner 0) (Acquire 0 0))
acquire_ours = record {
  by = here [];
  leases = λ j t e. let x : ⊥ = cc in absurd x;
  owns = λ r t e. let is : 0 ≡ r = cc in subst (λ q. at (owners_of work) q ≡ Some (Inner 0)) is refl;
}

close_ours : IsOurs work (event 1 (Inner 0) (Close 0 Succeeded))
close_ours = record { by = here []; leases = λ j t e. let y : ⊥ = cc in absurd y; owns = λ r t e. let y : ⊥ = cc in absurd y }

final_ours : IsOurs work (event 2 (Inner 0) (Final 0 Succeeded true))
final_ours = record { by = here []; leases = λ j t e. let y : ⊥ = cc in absurd y; owns = λ q t e. let y : ⊥ = cc in absurd y }

ours : AllByRecursion (IsOurs work) L
ours = (acquire_ours, (close_ours, (final_ours, tt)))

by_0 : (e : Event) → IsAmong e L → e.by ≡ Inner 0
by_0 e m = ⊎_elim (λ (i : e.by ≡ Inner 0). i) (λ m. absurd (among_nil m)) (among_cons (among_each (IsOurs work) e L ours m).by)

rules : KeepsRules work L
rules = record {
  stamped = stamped_sound L L refl refl;
  legal = legal_sound L refl;
  complete = complete_sound L (legal_sound L refl) refl;
  ordered = ordered_sound L refl;
  ours = ours;
  scopes = (omega arith, tt);
  leaving = never_leaves L refl;
  given = tt;
}

devices : DevicesAccounted (depot_before two_lines) (depot_after two_lines (lines_device ∷ [])) (to_read a ∷ []) L
devices = record {
  made = refl;
  few = (omega arith, tt);
  retired = refl;
  once = IsPermutation-refl _;
  shut = (record { shut = refl; closes = refl; once = omega arith; there = λ reads missing. absurd (is_there missing); within = omega arith }, tt);
  rows = (omega arith, (tt, (tt, tt)));
  acquired = (refl, (refl, tt));
  failed = tt;
  exits = exits_of two_lines 4 0 0 true true Succeeded;
  files = λ path. inr refl;
  stored = ((λ writes. absurd (reads_only writes)), tt);
}

root : NotesClose L (Inner 0) 0
root = (Succeeded, (event 1 (Inner 0) (Close 0 Succeeded), there _ (here _), refl, refl))

alone : AreLeftAlone work run home
alone zero r s is idle l m = absurd (idle (root.1.0, root.1.1, root.1.2))
alone (suc k) r s is idle l m = absurd (none_some is)

rows : HaveHomes work run no_values home
rows = record {
  at_home = (refl, refl, inl (here []), tt);
  apart = one_apart lines_device;
  tied = (refl, (tt, ((refl, refl), tt)));
  values = tt;
  alone = alone;
  housed = λ d b. ⊎_elim (λ (q : d ≡ lines_device). (0, omega arith, q)) (λ m. absurd (among_nil m)) (among_cons b);
}

ends : HaveEnds work run home
ends = record {
  named = refl;
  caused = (record { halted = λ e. let x : ⊥ = cc in absurd x; fault = tt; root = λ b. root }, tt);
  outer = tt;
  stopped = record {
    failed = λ t. absurd (false≢true t);
    silenced = λ t. absurd (false≢true t);
    ended = λ t. absurd (false≢true t);
    halted = λ e k m who is early. inr (λ j n. let x : Inner j ≡ Inner 0 = sym n.2 ∙ by_0 n.0 n.1 in let y : j ≡ 0 = cc in omega (arith, y));
    nobody = λ t. absurd (none_some t);
  };
  memory = λ e m is. ⊎_elim (λ (q : e ≡ end_of_0 how.Done). let x : how.Done ≡ how.Memory = sym (ap (λ (x : EndOf). x.how) q) ∙ is in cc) (λ m. absurd (among_nil m)) (among_cons m);
  begins = tt;
}

abbrev lines : List Element
lines = Line (codes "x") ∷ Line (codes "y") ∷ []

read : LineRuns lines_device lines Done
unfolding without_pairs ended_lines open_line
read = (inl (inl (refl, refl, inl (map Byte two_lines, Done, inl (refl, (refl, omega arith, refl, refl)), (refl, refl)))), inl (refl, inl (refl, tt)))

answered_whole : IsAnswered splitting 1 lines Done run how.Done
unfolding without_pairs ended_lines open_line
answered_whole = record { front = ([], refl); whole = λ o. (refl, refl) }

answered : (more : List Element) → (Done ≢ Cut → more ≡ []) → IsAnswered splitting 1 (lines ++ more) Done run how.Done
answered more rest = subst (λ (xs : List Element). IsAnswered splitting 1 (lines ++ xs) Done run how.Done) (sym (rest (λ e. cc))) answered_whole

some_is : (x y : List ℕ) → Some x ≡ Some y → x ≡ y
some_is x y e = cc

complete : (bytes : List ℕ) → content_at run.depot_old.files a ≡ Some bytes → IsUnfailed run → PrintsAnswer splitting 1 bytes run
complete bytes is calm =
    subst (λ b. PrintsAnswer splitting 1 b run) (some_is two_lines bytes is)
    (record { frames = sym answer_is; ends = ap (λ h. end_of_0 h ∷ []) (sym answer_ends) })

evaluates : Evaluates a splitting 1 run
evaluates = record {
  devices = devices;
  ledger = rules;
  ran = inr (record {
    home = home;
    lines = lines;
    end = Done;
    ending = how.Done;
    rows = rows;
    run = read;
    answered = answered;
    rest = refl;
    ends_so = refl;
    ends = ends;
    broken = λ n. absurd (n refl);
    wanting = λ t. absurd (false≢true t);
    exits = record { reading = how.Done; reported = refl; told = (tt, (refl, (tt, tt))); same = inl refl };
    completeness = complete;
  });
}

text_of_groups : two_groups.out_new.written ≡ Some ([] ++ (codes "0 2\nx\n\n0 2\ny\n\n" ++ ([] ++ tail_text two_groups.ends two_groups.events)))
unfolding digits
text_of_groups = refl

eval_means : true ≡ is_meant (command_of two_groups.words)
eval_means = sym (ap is_meant eval_asks ∙ ap (λ (m : Reading (List Step)). is_ok m) chain_is)

abbrev all_well : Causes
all_well = record { early = false; words = true; unread = false; refused = None; unwritten = false; memory = false; faulty = false; unclean = false }

pub two_groups_hold : RunsStreams two_groups
unfolding digits
two_groups_hold = record {
  causes = all_well;
  status = record { words = eval_means; unread = refl; unwritten = refl; memory = λ h. absurd (false≢true h); faulty = refl; unclean = refl; status = refl; line = inl refl };
  source = source_for two_groups all_well (Some (Eval 4 1 a (codes "lines"))) refl eval_asks (record { kept = refl; refused = refl });
  does = done_for two_groups all_well (Some (Eval 4 1 a (codes "lines"))) refl eval_asks
      (subst (λ m. DoesChain a 1 m two_groups all_well) (sym chain_is)
      (record { frames = answer_frames; cut = None; rest = []; wanted = false; performs = evaluates; text = record { said = tail_text two_groups.ends two_groups.events; written = text_of_groups; tail = refl; spoke = λ e. absurd (an_end _ _ e); once = omega arith } }));
}
