-- What running a plan does.
use Rattle.std.specs.Prelude.{◌≡◌, ℕ, true, false, List, [], ◌++◌, Option, is_some}
use Rattle.chunk_core.specs.Texts.{Frame, frames_text}
use Rattle.device_port.specs.Depot.{DepotTold}
use Rattle.device_port.specs.Sink.{SinkTold, with_bytes}
use Rattle.pipeline_desc.specs.Meant.{PlanMeant}
use Rattle.run_rules.specs.Run.{Performs}
use Rattle.cat_run.specs.declared.outcome.Outcome.{Outcome}
use Rattle.cat_run.specs.Alone.{and_one}
use Rattle.cat_run.specs.Cat.{run_record_of}
use Rattle.plan_work.specs.Plans.{run_work}

-- the work of a plan was done, of whose list these lines were given streams, and the sink got the frames, and what was written of the one whose write failed
pub record RunsPlan (p : PlanMeant) (depot_old depot_new : DepotTold) (old new : SinkTold) (o : Outcome) : Type 0 where
  pub lines : List (List ℕ)
  pub frames : List Frame
  pub cut : Option Frame
  pub rest : List ℕ
  pub broke : is_some cut ≡ o.sink_failed
  pub performs : Performs (run_work p lines) (run_record_of depot_old depot_new frames cut rest o)
  pub wrote : new ≡ record (with_bytes old (frames_text frames ++ rest)) { faults = and_one o.sink_failed old.faults }
  pub begun : o.ends ≡ [] → (o.sink_failed ≡ false) × (o.memory ≡ true)
