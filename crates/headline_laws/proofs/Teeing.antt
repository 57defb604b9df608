-- Calls of tee: which the contract takes, and that it refuses each that has one thing wrong.
use Rattle.std.proofs.Common.{◌≡◌, ◌≢◌, ℕ, true, false, List, [], ◌∷◌, ◌++◌, Option, Some, None, is_ok, is_some, inl, inr, refl, sym, ap, ◌∙◌, subst, ⊎_elim, arith, Ok}
use Rattle.std.specs.Prelude.{codes}
use Rattle.std.specs.Fmt.{digits}
use Rattle.std.proofs.lemmas.Bool.{false≢true}
use Rattle.clap.proofs.OnLiterals.{clap_on_literals}
use Rattle.chunk_core.specs.Lists.{IsAmong}
use Rattle.chunk_core.specs.Texts.{Frame}
use Rattle.chunk_core.specs.Outcomes.{exit_of}
use Rattle.chunk_core.specs.declared.code.Exit.TheVariants.{Succeeded, Errored}
use Rattle.chunk_core.specs.declared.code.How.{How}
use Rattle.chunk_core.specs.declared.code.How.TheVariants as how
use Rattle.chunk_core.proofs.Each.{among_each}
use Rattle.command_words.specs.Words.{command_of}
use Rattle.command_words.specs.declared.asked.Asked.TheVariants.{Tee}
use Rattle.pipeline_desc.specs.Reading.{Reading}
use Rattle.pipeline_desc.specs.declared.step.Step.{Step}
use Rattle.run_rules.specs.declared.end.EndOf.{EndOf}
use Rattle.run_rules.specs.Facts.{IsFailure, is_fault}
use Rattle.run_rules.specs.Run.{IsUnmade}
use Rattle.run_rules.specs.Texts.{tail_text}
use Rattle.run_rules.specs.Work.{RunRecord, begun_frames}
use Rattle.tee_rules.specs.Branches.{AreBranches}
use Rattle.tee_rules.specs.Tee.{HasCauseToHalt, Teed}
use Rattle.tee_rules.specs.Worked.{count_frame, counted_and_filtered, line_frame}
use Rattle.tee_rules.proofs.Worked.{first_right, last_right}
use Rattle.flume_cli.specs.Chains.{chains_of}
use Rattle.flume_cli.specs.Status.{Causes}
use Rattle.flume_cli.specs.Headline.{Call, DoesBranches, HasStatus, Headline, ReadsNothing, RunsStreams, TellsTee, is_meant, run_of_call}
use Rattle.flume_cli.proofs.Calling.{done_for, source_for}
use Rattle.headline_laws.specs.Calls.{a}
use Rattle.headline_laws.specs.Branched.{branch_halted_for_nothing, branch_without_end, branched_and_open, branched_as_errored, branches_turned, two_branches, two_words, unmeant_branch}
use Rattle.headline_laws.proofs.Asked.{asks_as, done_if, refuses, unless_early}
use Rattle.headline_laws.proofs.Refusing.{an_end, good, went}

abbrev tee_words : List (List ℕ)
tee_words = codes "tee" ∷ a ∷ two_words

tee_asks : command_of tee_words ≡ Some (Tee 4096 a two_words)
unfolding clap_on_literals
tee_asks = refl

chains_are : chains_of two_words ≡ Ok counted_and_filtered
chains_are = refl

tee_means : true ≡ is_meant (command_of tee_words)
tee_means = sym (ap is_meant tee_asks ∙ ap (λ (m : Reading (List (List Step))). is_ok m) chains_are)

-- what was done, where there are ends
tee_of : (c : Call) (h : RunsStreams c) → c.words ≡ tee_words → c.ends ≢ [] → TellsTee a counted_and_filtered c h.causes
tee_of c h words some =
    subst (λ m. DoesBranches a m c h.causes) chains_are (done_if c h.causes (Some (Tee 4096 a two_words)) (asks_as _ _ _ words tee_asks) (unless_early c h.causes h.causes.early some h.does) h.does)

refuses_tee : (c : Call) → c.words ≡ tee_words → ¬ (RunsStreams c) → ¬ (Headline c)
refuses_tee c words n = refuses c (Some (Tee 4096 a two_words)) (asks_as _ _ _ words tee_asks) refl n

-- Calls that went as they should.

tee_holds : (c : Call) (k : Causes) → c.words ≡ tee_words → k.early ≡ false → HasStatus c k → ReadsNothing c k → TellsTee a counted_and_filtered c k → RunsStreams c
tee_holds c k words e s source told =
    let is = asks_as _ _ _ words tee_asks in
    record {
      causes = k;
      status = s;
      source = source_for c k (Some (Tee 4096 a two_words)) e is source;
      does = done_for c k (Some (Tee 4096 a two_words)) e is (subst (λ m. DoesBranches a m c k) (sym chains_are) told);
    }

abbrev all_well : Causes
all_well = record { early = false; words = true; unread = false; refused = None; unwritten = false; memory = false; faulty = false; unclean = false }

text_of_two : two_branches.out_new.written ≡ Some ([] ++ (codes "0 2\n2\n\n1 3\ncd\n\n" ++ ([] ++ tail_text two_branches.ends two_branches.events)))
unfolding digits
text_of_two = refl

text_of_turned : branches_turned.out_new.written ≡ Some ([] ++ (codes "1 3\ncd\n\n0 2\n2\n\n" ++ ([] ++ tail_text branches_turned.ends branches_turned.events)))
unfolding digits
text_of_turned = refl

pub two_branches_hold : RunsStreams two_branches
unfolding digits
two_branches_hold =
    tee_holds two_branches all_well refl refl (record { words = tee_means; unread = refl; unwritten = refl; memory = λ h. absurd (false≢true h); faulty = refl; unclean = refl; status = refl; line = inl refl }) (record { kept = refl; refused = refl })
    (record { frames = count_frame ∷ line_frame ∷ []; cut = None; rest = []; wanted = false; performs = first_right; text = record { said = tail_text two_branches.ends two_branches.events; written = text_of_two; tail = refl; spoke = λ e. absurd (an_end _ _ e); once = omega arith } })

pub branches_turned_hold : RunsStreams branches_turned
unfolding digits
branches_turned_hold =
    tee_holds branches_turned all_well refl refl (record { words = tee_means; unread = refl; unwritten = refl; memory = λ h. absurd (false≢true h); faulty = refl; unclean = refl; status = refl; line = inl refl }) (record { kept = refl; refused = refl })
    (record { frames = line_frame ∷ count_frame ∷ []; cut = None; rest = []; wanted = false; performs = last_right; text = record { said = tail_text branches_turned.ends branches_turned.events; written = text_of_turned; tail = refl; spoke = λ e. absurd (an_end _ _ e); once = omega arith } })

-- Calls that are refused.

abbrev first_how : List EndOf → How
first_how [] = how.Done
first_how (e ∷ es) = e.how

abbrev behind_first : List EndOf → List EndOf
behind_first [] = []
behind_first (e ∷ es) = es

no_frame : (cut : Option Frame) → is_some cut ≡ false → cut ≡ None
no_frame None h = refl
no_frame (Some f) h = absurd (false≢true (sym h))

-- a call of tee that has ends
module _ (c : Call) (words : c.words ≡ tee_words) (some : c.ends ≢ []) (h : RunsStreams c) where
  told : TellsTee a counted_and_filtered c h.causes
  told = tee_of c h words some

  abbrev did : RunRecord
  did = run_of_call c told.frames told.cut told.rest told.wanted

  ran : Teed a counted_and_filtered did
  ran = ⊎_elim (λ (u : IsUnmade did). absurd (some u.ends)) (λ r. r) told.performs.ran

  outer_how : ran.ending ≡ first_how c.ends
  outer_how = sym (ap first_how ran.ends)

  branches : AreBranches ran.given ran.end (begun_frames did) 0 counted_and_filtered (behind_first c.ends)
  branches = subst (AreBranches ran.given ran.end (begun_frames did) 0 counted_and_filtered) (sym (ap behind_first ran.ends)) ran.each

pub open_refused : ¬ (Headline branched_and_open)
open_refused = refuses_tee branched_and_open refl (λ h. let t = told branched_and_open refl (an_end _ _) h in false≢true (sym t.performs.devices.shut.0.shut))

pub without_end_refused : ¬ (Headline branch_without_end)
without_end_refused = refuses_tee branch_without_end refl (λ h. (branches branch_without_end refl (an_end _ _) h).2)

pub as_errored_refused : ¬ (Headline branched_as_errored)
as_errored_refused = refuses_tee branched_as_errored refl (λ h.
    let r = ran branched_as_errored refl (an_end _ _) h in
    let exit : Errored ≡ exit_of r.ending = r.reader.exits.1.0 in
    let no : Errored ≡ Succeeded = exit ∙ ap exit_of (outer_how branched_as_errored refl (an_end _ _) h) in
    cc)

-- none of the ends is a failure
none_failed : (e : EndOf) → IsAmong e branch_halted_for_nothing.ends → IsFailure e.how → ⊥
none_failed e m f = false≢true (sym (among_each (λ (x : EndOf). is_fault x.how ≡ false) e branch_halted_for_nothing.ends (refl, (refl, (refl, tt))) m) ∙ ap is_fault f.1)

no_cause : (c : RunRecord) → c.ends ≡ branch_halted_for_nothing.ends → c.cut ≡ None → c.memory ≡ false → HasCauseToHalt c → ⊥
no_cause c ends whole there (inl n) = n whole
no_cause c ends whole there (inr (inl m)) = false≢true (sym there ∙ m)
no_cause c ends whole there (inr (inr f)) = none_failed f.0 (subst (λ es. IsAmong f.0 es) ends f.1) f.2

pub halted_refused : ¬ (Headline branch_halted_for_nothing)
halted_refused = refuses_tee branch_halted_for_nothing refl (λ h.
    let t = told branch_halted_for_nothing refl (an_end _ _) h in
    let w = went h.causes (good h.causes h.status.status) t.text.said _ (is_some t.cut) t.wanted t.text.tail in
    let r = ran branch_halted_for_nothing refl (an_end _ _) h in
    no_cause (did branch_halted_for_nothing refl (an_end _ _) h) refl (no_frame t.cut w.broke_is) w.wanted_is (r.caused.1.1.0.halted refl))

unmeant_asks : command_of unmeant_branch.words ≡ Some (Tee 4096 a (codes "lines|count" ∷ codes "field 0" ∷ []))
unfolding clap_on_literals
unmeant_asks = refl

unmeant : is_meant (Some (Tee 4096 a (codes "lines|count" ∷ codes "field 0" ∷ []))) ≡ false
unmeant = refl

pub unmeant_refused : ¬ (Headline unmeant_branch)
unmeant_refused = refuses unmeant_branch (Some (Tee 4096 a (codes "lines|count" ∷ codes "field 0" ∷ []))) unmeant_asks refl (λ h.
    let g = good h.causes h.status.status in
    false≢true (sym (h.status.words ∙ (ap is_meant unmeant_asks ∙ unmeant)) ∙ g.words))
