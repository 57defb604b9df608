-- The evaluation of a file, from its device made to its device given back.
use Rattle.std.proofs.Common.{◌≡◌, ℕ, List, [], ◌∷◌, inl, Option, None, refl, sym, subst}
use Rattle.cat_run.specs.declared.outcome.Outcome.{Outcome}
use Rattle.cat_run.proofs.Unmade.{outcome_is, performs_nothing, unmade_outcome, wrote_none}
use Rattle.chunk_core.specs.Tables.{no_values}
use Rattle.device_port.specs.Depot.{DepotTold, Makes}
use Rattle.device_port.specs.Device.{DeviceTold}
use Rattle.device_port.specs.Sink.{SinkTold}
use Rattle.device_port.specs.declared.device.Mode.TheVariants as mode
use Rattle.eval_rules.specs.Evaluation.{LineRuns, reading_work}
use Rattle.eval_work.specs.Works.{result_of}
use Rattle.lone_stream.specs.Account.{IsAccount, IsAccountOf}
use Rattle.lone_stream.specs.declared.run.Ran.{Ran}
use Rattle.lone_stream.proofs.OneFile as file
use Rattle.pipeline_desc.specs.declared.step.Step.{Step}
use Rattle.pull_nodes.specs.Failures.{IsToldRun}
use Rattle.pull_nodes.specs.declared.node.Node.{Node}
use Rattle.res_ledger.specs.declared.event.StreamNo.TheVariants.{Inner}
use Rattle.run_rules.specs.Devices.{KeepsToWhatIsThere}
use Rattle.stream_parts.specs.Retire.{MayReturnAll, Returns, devices_of}
use Rattle.eval_run.specs.Eval.{RunsEval}
use Rattle.eval_run.specs.Printing.{ending_of, is_unwritten, is_wanting}
use Rattle.eval_run.specs.Ready.{IsLinesNode}
use Rattle.eval_run.specs.Runs.{Evaluated}
use Rattle.eval_run.specs.declared.stop.Stop.{Stop}
use Rattle.eval_run.proofs.Evaluating.{evaluated}
use Rattle.eval_run.proofs.LinesFile.{lines_scopes}

module _ {V : Type 0} (told : V → DeviceTold) (path : List ℕ) (steps : List Step) (n : ℕ) (old mid : DepotTold) (so sn : SinkTold) (node : Node) (d : V) (is : IsLinesNode node) (makes : Makes old mid path mode.Read (told d)) (r : Ran V) (s : Option Stop) (e : Evaluated told (result_of steps) n node (d ∷ []) so sn r s) where
  abbrev home : ℕ → DeviceTold
  home = e.runs.home

  -- the device may go back
  pub may_return : MayReturnAll mid (devices_of told r.shelf r.unopened)
  may_return = file.may_return told path old mid d makes (Inner 0) node home r e.runs.comes

  run : LineRuns (home 0) e.given e.runs.end
  run = subst (λ m. IsToldRun no_values home m e.given e.runs.end) is.2 e.runs.run

  account : IsAccount 1 0 home r.how r.ledger
  account = subst (λ k. IsAccountOf (Inner 0) 1 k home r.how r.ledger) (lines_scopes node is) e.runs.comes.account

  -- the device came back
  pub eval_ran : ((v : V) → KeepsToWhatIsThere (told v)) → (new : DepotTold) → Returns mid new (devices_of told r.shelf r.unopened) → (o : Outcome) → o.ends ≡ record { who = Inner 0; how = ending_of r.how s } ∷ [] → o.ledger ≡ r.ledger → o.sink_failed ≡ is_unwritten s → o.memory ≡ is_wanting s
      → RunsEval path n steps old new so sn o
  eval_ran each_there new back o ends ledger broken memory =
      let came = file.comes_back told path old mid d makes (Inner 0) node home r e.runs.comes each_there new back in
      subst (λ x. RunsEval path n steps old new so sn x) (sym (outcome_is o (record { who = Inner 0; how = ending_of r.how s } ∷ []) r.ledger (is_unwritten s) (is_wanting s) ends ledger broken memory))
      (evaluated path steps n old new so sn home e.given e.runs.end run r.how e.runs.reported r.ledger came account (e.runs.comes.within 0) s e.evaluated)

-- nothing was begun
eval_nothing : (path : List ℕ) (steps : List Step) (n : ℕ) (old : DepotTold) (so sn : SinkTold) → sn ≡ so → RunsEval path n steps old old so sn unmade_outcome
eval_nothing path steps n old so sn quiet =
    let p = performs_nothing (reading_work path) old in
    record {
      frames = [];
      cut = None;
      rest = [];
      broke = refl;
      evaluates = record { devices = p.devices; ledger = p.ledger; ran = inl (record { memory = refl; depot = refl; ends = refl; events = refl; frames = refl; cut = refl; rest = refl }) };
      wrote = wrote_none so sn quiet;
    }

pub eval_unmade : (path : List ℕ) (steps : List Step) (n : ℕ) (old new : DepotTold) (so sn : SinkTold) (o : Outcome) → new ≡ old → sn ≡ so → o ≡ unmade_outcome → RunsEval path n steps old new so sn o
eval_unmade path steps n old new so sn o same quiet is =
    subst (λ x. RunsEval path n steps old new so sn x) (sym is) (subst (λ x. RunsEval path n steps old x so sn unmade_outcome) (sym same) (eval_nothing path steps n old so sn quiet))
