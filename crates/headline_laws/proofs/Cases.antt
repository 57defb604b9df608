-- Which calls of gen the contract takes.
use Rattle.std.proofs.Common.{◌≡◌, ◌≢◌, ℕ, Bool, true, false, get_or, List, [], ◌∷◌, Option, Some, None, refl, sym, ap, ◌∙◌, subst, inl, ⊎_elim, arith, if◌then◌else◌}
use Rattle.std.specs.Prelude.{unwrap_or}
use Rattle.std.specs.Fmt.{digits}
use Rattle.std.proofs.lemmas.Bool.{both_ways, false≢true}
use Rattle.clap.proofs.OnLiterals.{clap_on_literals}
use Rattle.chunk_core.specs.declared.code.How.TheVariants as how
use Rattle.device_port.specs.Depot.{DepotTold}
use Rattle.device_port.specs.Sink.{BreaksOff, SinkTold}
use Rattle.device_port.specs.Source.{SourceTold}
use Rattle.command_words.specs.Words.{command_of}
use Rattle.command_words.specs.declared.asked.Asked.TheVariants.{Gen}
use Rattle.pipeline_desc.specs.declared.refusal.Refusal.{Refusal}
use Rattle.plan_work.specs.Plans.{run_work}
use Rattle.cat_run.proofs.Unmade.{performs_nothing}
use Rattle.gen_case.specs.Plan.{plan_of_case}
use Rattle.gen_case.specs.Runs.{depot_of}
use Rattle.gen_case.specs.declared.case.Case.{Case}
use Rattle.flume_cli.specs.declared.status.Status.TheVariants as status
use Rattle.flume_cli.specs.Status.{Causes, status_number, status_of}
use Rattle.flume_cli.specs.Headline.{Call, KeepsSource, PrintsNothing, PrintsSummary, ReadsNothing, RunsStreams, TellsCase, is_meant}
use Rattle.flume_cli.proofs.Calling.{done_for, source_for}
use Rattle.headline_laws.specs.Cases.{case_not_made, case_of_the_depot, case_of_the_source, failed_case, gen_words, halted_case, nothing_summed, summary_of_another_seed, summary_without_memory}
use Rattle.headline_laws.proofs.Asked.{asks_as, done_if, unless_early}
use Rattle.headline_laws.proofs.Refusing.{good}

pub gen_asks : command_of gen_words ≡ Some (Gen 0 1 3)
unfolding clap_on_literals
gen_asks = refl

abbrev case : Case
case = record { seed = 0; streams = 1; lines = 3 }

-- what was done, where there are ends
early_not : (c : Call) (h : RunsStreams c) → c.ends ≢ [] → h.causes.early ≡ false
early_not c h some = unless_early c h.causes h.causes.early some h.does

told_of : (c : Call) (h : RunsStreams c) → c.words ≡ gen_words → c.ends ≢ [] → TellsCase case c h.causes
told_of c h words some = done_if c h.causes (Some (Gen 0 1 3)) (asks_as _ _ _ words gen_asks) (early_not c h some) h.does

-- nothing is read
nothing_read : (c : Call) (h : RunsStreams c) → c.words ≡ gen_words → ReadsNothing c h.causes
nothing_read c h words = go h.causes.early h.source
  where
    go : (b : Bool) → KeepsSource c h.causes (if b then None else command_of c.words) → ReadsNothing c h.causes
    go true s = s
    go false s = subst (λ q. KeepsSource c h.causes q) (asks_as _ _ _ words gen_asks) s

some_ends : {A : Type 0} (x : A) (xs : List A) → (x ∷ xs) ≢ []
some_ends x xs e = cc

-- There was no memory to make the case.

abbrev causes_of_none : Causes
causes_of_none = record { early = false; words = true; unread = false; refused = None; unwritten = false; memory = true; faulty = false; unclean = false }

pub case_not_made_holds : RunsStreams case_not_made
case_not_made_holds = record {
  causes = causes_of_none;
  status = record { words = sym (ap is_meant gen_asks); unread = refl; unwritten = refl; memory = λ h. refl; faulty = refl; unclean = refl; status = refl; line = inl refl };
  source = source_for case_not_made causes_of_none (Some (Gen 0 1 3)) refl gen_asks (record { kept = refl; refused = refl });
  does = done_for case_not_made causes_of_none (Some (Gen 0 1 3)) refl gen_asks (record {
    kept = refl;
    runs = record { depot = depot_of case; frames = []; cut = None; rest = []; memory = true; performs = performs_nothing (run_work (plan_of_case case) []) (depot_of case); unfailed = refl };
    told = inl (record { memory = refl; out = refl });
  });
}

-- What is refused.

pub case_of_the_depot_refused : ¬ (RunsStreams case_of_the_depot)
case_of_the_depot_refused h = let t = told_of case_of_the_depot h refl (some_ends _ _) in some_ends _ _ (ap (λ (d : DepotTold). d.made) t.kept)

no_byte_left : (x : ℕ) → ◌≡◌ {A = Option (List ℕ)} (Some []) (Some (x ∷ [])) → ⊥
no_byte_left x e = cc

pub case_of_the_source_refused : ¬ (RunsStreams case_of_the_source)
case_of_the_source_refused h = no_byte_left _ (ap (λ (s : SourceTold). s.left) (nothing_read case_of_the_source h refl).kept)

pub failed_case_refused : ¬ (RunsStreams failed_case)
failed_case_refused h = let t = told_of failed_case h refl (some_ends _ _) in false≢true (sym t.runs.unfailed)

-- at status 0 the summary was printed
summary_of_good : (c : Call) (h : RunsStreams c) → c.status ≡ status.Good → (t : TellsCase case c h.causes) → PrintsSummary case c h.causes t.runs.frames
summary_of_good c h is t = ⊎_elim (λ (p : PrintsNothing c h.causes). absurd (both_ways h.causes.memory (good h.causes (sym is ∙ h.status.status)).memory p.memory)) (λ p. p) t.told

never_halted : how.Halted ≡ how.Done → ⊥
never_halted e = cc

pub halted_case_refused : ¬ (RunsStreams halted_case)
halted_case_refused h = let t = told_of halted_case h refl (some_ends _ _) in never_halted (summary_of_good halted_case h refl t).whole.done.1.0

-- a failed write is counted
no_failure : (old new : SinkTold) (bytes : List ℕ) → old.faults ≡ 0 → new.faults ≡ 0 → BreaksOff old new bytes → ⊥
no_failure old new bytes o n b = let e = ap (λ (s : SinkTold). s.faults) b.told in omega (arith, o, n, e)

-- the byte of an output at a place
abbrev byte_at : ℕ → SinkTold → ℕ
byte_at i s = get_or (unwrap_or s.written []) i 0

pub nothing_summed_refused : ¬ (RunsStreams nothing_summed)
nothing_summed_refused h =
    let t = told_of nothing_summed h refl (some_ends _ _) in
    ⊎_elim (λ e. let x : 0 ≡ 103 = ap (byte_at 0) e in omega (arith, x)) (no_failure _ _ _ refl refl) (summary_of_good nothing_summed h refl t).printed

pub summary_of_another_seed_refused : ¬ (RunsStreams summary_of_another_seed)
unfolding digits
summary_of_another_seed_refused h =
    let t = told_of summary_of_another_seed h refl (some_ends _ _) in
    ⊎_elim (λ e. let x : 49 ≡ 48 = ap (byte_at 4) e in omega (arith, x)) (no_failure _ _ _ refl refl) (summary_of_good summary_of_another_seed h refl t).printed

-- status 5 has its cause
never_memory : (w r u f n : Bool) (o : Option Refusal) → status.Memory ≡ status_of (record { early = false; words = w; unread = r; refused = o; unwritten = u; memory = false; faulty = f; unclean = n }) → ⊥
never_memory false r u f n o e = let g = ap status_number e in omega (arith, g)
never_memory true true u f n o e = let g = ap status_number e in omega (arith, g)
never_memory true false u f n (Some x) e = let g = ap status_number e in omega (arith, g)
never_memory true false true f n None e = let g = ap status_number e in omega (arith, g)
never_memory true false false true n None e = let g = ap status_number e in omega (arith, g)
never_memory true false false false true None e = let g = ap status_number e in omega (arith, g)
never_memory true false false false false None e = let g = ap status_number e in omega (arith, g)

memory_is_told : (k : Causes) → k.early ≡ false → k.memory ≡ false → status.Memory ≡ status_of k → ⊥
memory_is_told k e m is =
    never_memory k.words k.unread k.unwritten k.faulty k.unclean k.refused
    (subst (λ b. status.Memory ≡ status_of (record { early = false; words = k.words; unread = k.unread; refused = k.refused; unwritten = k.unwritten; memory = b; faulty = k.faulty; unclean = k.unclean })) m
    (subst (λ b. status.Memory ≡ status_of (record { early = b; words = k.words; unread = k.unread; refused = k.refused; unwritten = k.unwritten; memory = k.memory; faulty = k.faulty; unclean = k.unclean })) e is))

pub summary_without_memory_refused : ¬ (RunsStreams summary_without_memory)
summary_without_memory_refused h =
    let t = told_of summary_without_memory h refl (some_ends _ _) in
    ⊎_elim
    (λ (p : PrintsNothing summary_without_memory h.causes). let x : 103 ≡ 0 = ap (byte_at 0) p.out in omega (arith, x))
    (λ (p : PrintsSummary case summary_without_memory h.causes t.runs.frames). memory_is_told h.causes (early_not summary_without_memory h (some_ends _ _)) p.memory h.status.status)
    t.told
