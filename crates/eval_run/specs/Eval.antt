-- What the evaluation of a file does.
use Rattle.std.specs.Prelude.{◌≡◌, ℕ, is_some, List, ◌++◌, Option}
use Rattle.cat_run.specs.Cat.{and_one, run_record_of}
use Rattle.cat_run.specs.declared.outcome.Outcome.{Outcome}
use Rattle.chunk_core.specs.Texts.{Frame, frames_text}
use Rattle.device_port.specs.Depot.{DepotTold}
use Rattle.device_port.specs.Sink.{SinkTold, with_bytes}
use Rattle.eval_rules.specs.Evaluation.{Evaluates}
use Rattle.pipeline_desc.specs.declared.step.Step.{Step}

-- the lines of the file went through the steps in groups, and the sink got the frames, and what was written of the one whose write failed
pub record RunsEval (path : List ℕ) (group : ℕ) (steps : List Step) (depot_old depot_new : DepotTold) (old new : SinkTold) (o : Outcome) : Type 0 where
  pub frames : List Frame
  pub cut : Option Frame
  pub rest : List ℕ
  pub broke : is_some cut ≡ o.sink_failed
  pub evaluates : Evaluates path steps group (run_record_of depot_old depot_new frames cut rest o)
  pub wrote : new ≡ record (with_bytes old (frames_text frames ++ rest)) { faults = and_one o.sink_failed old.faults }
