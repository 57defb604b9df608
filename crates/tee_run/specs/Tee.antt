-- What the command tee does.
use Rattle.std.specs.Prelude.{◌≡◌, ℕ, List, ◌++◌, Option, is_some}
use Rattle.chunk_core.specs.Texts.{Frame, frames_text}
use Rattle.device_port.specs.Depot.{DepotTold}
use Rattle.device_port.specs.Sink.{SinkTold, with_bytes}
use Rattle.pipeline_desc.specs.declared.step.Step.{Step}
use Rattle.cat_run.specs.Cat.{and_one, run_record_of}
use Rattle.cat_run.specs.declared.outcome.Outcome.{Outcome}
use Rattle.tee_rules.specs.Tee.{TeesFile}

-- the file was read for the branches, and the sink got the frames, and what was written of the one whose write failed
pub record RunsTee (path : List ℕ) (branches : List (List Step)) (depot_old depot_new : DepotTold) (old new : SinkTold) (o : Outcome) : Type 0 where
  pub frames : List Frame
  pub cut : Option Frame
  pub rest : List ℕ
  pub broke : is_some cut ≡ o.sink_failed
  pub tees : TeesFile path branches (run_record_of depot_old depot_new frames cut rest o)
  pub wrote : new ≡ record (with_bytes old (frames_text frames ++ rest)) { faults = and_one o.sink_failed old.faults }
