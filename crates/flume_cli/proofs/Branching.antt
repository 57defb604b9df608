-- A call of tee and one of eval, from what was done for it.
use Rattle.std.proofs.Common.{◌≡◌, ◌≢◌, ℕ, Bool, true, false, List, [], ◌∷◌, Option, Some, None, is_ok, is_some, IsErr, refl, sym, ap, ◌∙◌, subst, ⊎_elim, Ok, Err}
use Rattle.chunk_core.specs.Texts.{Frame}
use Rattle.chunk_core.proofs.Each.{among_each}
use Rattle.device_port.specs.Source.{SourceTold}
use Rattle.device_port.specs.Depot.{DepotTold}
use Rattle.device_port.specs.Sink.{SinkTold}
use Rattle.command_words.specs.Words.{command_of}
use Rattle.command_words.specs.declared.asked.Asked.{Asked}
use Rattle.command_words.specs.declared.asked.Asked.TheVariants.{Eval, Tee}
use Rattle.pipeline_desc.specs.Reading.{Reading}
use Rattle.pipeline_desc.specs.declared.step.Step.{Step}
use Rattle.step_words.specs.Words.{steps_of}
use Rattle.run_rules.specs.declared.end.EndOf.{EndOf}
use Rattle.run_rules.specs.Run.{IsUnmade}
use Rattle.run_rules.specs.Work.{RunRecord}
use Rattle.cat_run.specs.Cat.{run_record_of}
use Rattle.cat_run.specs.declared.outcome.Outcome.{Outcome}
use Rattle.tee_rules.specs.Tee.{EndIsCaused, Teed, TeesFile}
use Rattle.eval_rules.specs.Evaluation.{Evaluates, HasRun}
use Rattle.tee_run.specs.Tee.{RunsTee}
use Rattle.eval_run.specs.Eval.{RunsEval}
use Rattle.flume_cli.specs.declared.status.Status.{Status}
use Rattle.flume_cli.specs.declared.status.Status.TheVariants as status
use Rattle.flume_cli.specs.declared.report.Report.{Report}
use Rattle.flume_cli.specs.Status.{Causes}
use Rattle.flume_cli.specs.Chains.{GivesMeant, chains_of}
use Rattle.flume_cli.specs.Headline.{Call, DidNothing, Does, DoesBranches, DoesChain, KeepsSource, ReadsNothing, RunsStreams, is_meant}
use Rattle.flume_cli.specs.Call.{call_of}
use Rattle.flume_cli.specs.Finish.{Reports, Tells}
use Rattle.flume_cli.proofs.Calling.{cause, done_for, early_told, idle, idle_report, nothing, source_for, status_is}
use Rattle.flume_cli.proofs.Telling.{DoesRun, TellsMemory, kept, run_told, tells_memory_if}

none_cut : (cut : Option Frame) (failed : Bool) → is_some cut ≡ failed → cut ≡ None → failed ≡ false
none_cut cut failed is none = sym is ∙ ap (λ (f : Option Frame). is_some f) none

an_end : (e : EndOf) (es : List EndOf) → e ∷ es ≢ []
an_end e es is = absurd (cc)

-- What a run of either tells of its memory.
module _ (dold dnew : DepotTold) (frames : List Frame) (cut : Option Frame) (rest : List ℕ) (o : Outcome) where
  abbrev ran : RunRecord
  ran = run_record_of dold dnew frames cut rest o

  pub tee_memory : (path : List ℕ) (branches : List (List Step)) → TeesFile path branches ran → TellsMemory o
  tee_memory path branches tees = tells_memory_if o (λ e i is. ⊎_elim (λ (x : IsUnmade ran). x.memory) (λ (t : Teed path branches ran). (among_each (EndIsCaused ran) e o.ends t.caused i).memory is) tees.ran)

  pub tee_begun : (path : List ℕ) (branches : List (List Step)) → is_some cut ≡ o.sink_failed → TeesFile path branches ran → o.ends ≡ [] → (o.sink_failed ≡ false) × (o.memory ≡ true)
  tee_begun path branches broke tees none = ⊎_elim (λ (x : IsUnmade ran). (none_cut cut o.sink_failed broke x.cut, x.memory)) (λ (t : Teed path branches ran). absurd (an_end _ _ (sym t.ends ∙ none))) tees.ran

  pub eval_memory : (path : List ℕ) (steps : List Step) (n : ℕ) → Evaluates path steps n ran → TellsMemory o
  eval_memory path steps n evaluates = tells_memory_if o (λ e i is. ⊎_elim (λ (x : IsUnmade ran). x.memory) (λ (t : HasRun path steps n ran). t.ends.memory e i is) evaluates.ran)

  pub eval_begun : (path : List ℕ) (steps : List Step) (n : ℕ) → is_some cut ≡ o.sink_failed → Evaluates path steps n ran → o.ends ≡ [] → (o.sink_failed ≡ false) × (o.memory ≡ true)
  eval_begun path steps n broke evaluates none = ⊎_elim (λ (x : IsUnmade ran). (none_cut cut o.sink_failed broke x.cut, x.memory)) (λ (t : HasRun path steps n ran). absurd (an_end _ _ (sym t.ends_so ∙ none))) evaluates.ran

module _ (words : List (List ℕ)) (src : SourceTold) (dold dnew : DepotTold) (so mid sn eold enew : SinkTold) (o : Outcome) (r : Report) (told : Tells o mid sn eold enew r) where
  abbrev call : Call
  call = call_of words src src dold dnew so sn eold enew r

  -- the branches were printed and told
  pub tee_told : (chunk : ℕ) (path : List ℕ) (ws : List (List ℕ)) (branches : List (List Step)) → command_of words ≡ Some (Tee chunk path ws) → chains_of ws ≡ Ok branches → RunsTee path branches dold dnew so mid o → RunsStreams call
  tee_told chunk path ws branches asked chains runs =
      let did : DoesRun (TeesFile path branches) dold dnew so mid o runs.frames runs.cut runs.rest = record {
        broke = runs.broke;
        performs = runs.tees;
        wrote = runs.wrote;
        begun = tee_begun dold dnew runs.frames runs.cut runs.rest o path branches runs.broke runs.tees;
        remembered = tee_memory dold dnew runs.frames runs.cut runs.rest o path branches runs.tees;
      } in
      let meant : is_meant (command_of words) ≡ true = ap is_meant asked ∙ ap (λ (m : Reading (List (List Step))). is_ok m) chains in
      let t = run_told words src src dold dnew so mid sn eold enew o (TeesFile path branches) runs.frames runs.cut runs.rest meant (kept src.faults src.faults refl) did r told in
      record {
        causes = t.causes;
        status = t.status;
        source = source_for call t.causes (Some (Tee chunk path ws)) t.early asked (record { kept = refl; refused = t.refused });
        does = done_for call t.causes (Some (Tee chunk path ws)) t.early asked (subst (λ m. DoesBranches path m call t.causes) (sym chains) t.tells);
      }

  -- the lines were evaluated, and that was told
  pub eval_told : (jobs group : ℕ) (path word : List ℕ) (steps : List Step) → command_of words ≡ Some (Eval jobs group path word) → steps_of word ≡ Ok steps → RunsEval path group steps dold dnew so mid o → RunsStreams call
  eval_told jobs group path word steps asked chain runs =
      let did : DoesRun (Evaluates path steps group) dold dnew so mid o runs.frames runs.cut runs.rest = record {
        broke = runs.broke;
        performs = runs.evaluates;
        wrote = runs.wrote;
        begun = eval_begun dold dnew runs.frames runs.cut runs.rest o path steps group runs.broke runs.evaluates;
        remembered = eval_memory dold dnew runs.frames runs.cut runs.rest o path steps group runs.evaluates;
      } in
      let meant : is_meant (command_of words) ≡ true = ap is_meant asked ∙ ap (λ (m : Reading (List Step)). is_ok m) chain in
      let t = run_told words src src dold dnew so mid sn eold enew o (Evaluates path steps group) runs.frames runs.cut runs.rest meant (kept src.faults src.faults refl) did r told in
      record {
        causes = t.causes;
        status = t.status;
        source = source_for call t.causes (Some (Eval jobs group path word)) t.early asked (record { kept = refl; refused = t.refused });
        does = done_for call t.causes (Some (Eval jobs group path word)) t.early asked (subst (λ m. DoesChain path group m call t.causes) (sym chain) t.tells);
      }

-- Words of steps that mean nothing, or for which there was no memory.
module _ (words : List (List ℕ)) (src : SourceTold) (depot : DepotTold) (out eold enew : SinkTold) (r : Report) where
  abbrev unmeant : Causes
  unmeant = cause words src src depot out eold enew false false false None false

  abbrev stays : Call
  stays = idle words src src depot out eold enew status.BadWords

  -- what is asked for, of which nothing is done
  bad_words : (asked : Asked) → command_of words ≡ Some asked → is_meant (Some asked) ≡ false → (ReadsNothing stays unmeant → KeepsSource stays unmeant (Some asked)) → (DidNothing stays → Does stays unmeant (Some asked))
      → Reports status.BadWords [] [] eold enew r → RunsStreams (call_of words src src depot depot out out eold enew r)
  bad_words asked is none keeps does f = idle_report words src src depot out eold enew status.BadWords r f (record {
    causes = unmeant;
    status = status_is words src src depot out eold enew status.BadWords false false false None false (sym (ap is_meant is ∙ none)) (sym (kept src.faults src.faults refl)) refl f.line;
    source = source_for stays unmeant (Some asked) refl is (keeps (record { kept = refl; refused = refl }));
    does = done_for stays unmeant (Some asked) refl is (does (nothing words src src depot out eold enew status.BadWords));
  })

  not_meant : {A : Type 0} (m : Reading A) → IsErr m → is_ok m ≡ false
  not_meant (Ok x) h = absurd (cc)
  not_meant (Err e) h = refl

  branches_idle : (path : List ℕ) (m : Reading (List (List Step))) → IsErr m → DidNothing stays → DoesBranches path m stays unmeant
  branches_idle path (Ok x) h d = absurd (cc)
  branches_idle path (Err e) h d = d

  chain_idle : (path : List ℕ) (n : ℕ) (m : Reading (List Step)) → IsErr m → DidNothing stays → DoesChain path n m stays unmeant
  chain_idle path n (Ok x) h d = absurd (cc)
  chain_idle path n (Err e) h d = d

  -- a status that nothing meant comes to
  by_status : {A : Type 0} (IsSo : A → Type 0) (m : Reading A) (s : Status) → GivesMeant IsSo m (Err s) → Reports s [] [] eold enew r → (IsErr m → Reports status.BadWords [] [] eold enew r → RunsStreams (call_of words src src depot depot out out eold enew r))
      → RunsStreams (call_of words src src depot depot out out eold enew r)
  by_status IsSo m status.BadWords h f bad = bad h f
  by_status IsSo m status.Memory h f bad = early_told words src depot out eold enew r f
  by_status IsSo m (status.Refused e) h f bad = absurd h
  by_status IsSo m status.Unread h f bad = absurd h
  by_status IsSo m status.Good h f bad = absurd h
  by_status IsSo m status.Faulty h f bad = absurd h
  by_status IsSo m status.NotWritten h f bad = absurd h
  by_status IsSo m status.Unclean h f bad = absurd h
  by_status IsSo m status.Broken h f bad = absurd h
  by_status IsSo m (status.LedgerRefused e) h f bad = absurd h
  by_status IsSo m status.LedgerUnread h f bad = absurd h

  pub branches_refused : (IsSo : List (List Step) → Type 0) (chunk : ℕ) (path : List ℕ) (ws : List (List ℕ)) (s : Status) → command_of words ≡ Some (Tee chunk path ws) → GivesMeant IsSo (chains_of ws) (Err s) → Reports s [] [] eold enew r
      → RunsStreams (call_of words src src depot depot out out eold enew r)
  branches_refused IsSo chunk path ws s asked h f = by_status IsSo (chains_of ws) s h f (λ e g. bad_words (Tee chunk path ws) asked (not_meant (chains_of ws) e) (λ n. n) (branches_idle path (chains_of ws) e) g)

  pub chain_refused : (IsSo : List Step → Type 0) (jobs group : ℕ) (path word : List ℕ) (s : Status) → command_of words ≡ Some (Eval jobs group path word) → GivesMeant IsSo (steps_of word) (Err s) → Reports s [] [] eold enew r
      → RunsStreams (call_of words src src depot depot out out eold enew r)
  chain_refused IsSo jobs group path word s asked h f = by_status IsSo (steps_of word) s h f (λ e g. bad_words (Eval jobs group path word) asked (not_meant (steps_of word) e) (λ n. n) (chain_idle path group (steps_of word) e) g)
