-- What an evaluation leaves, once its threads are joined.
use Rattle.std.specs.Prelude.{◌≡◌, ℕ, true, List, [], ◌++◌, length, Option, Some, None}
use Rattle.chunk_core.specs.Elements.{Element}
use Rattle.chunk_core.specs.declared.code.How.{How}
use Rattle.chunk_core.specs.declared.load.Load.{Load}
use Rattle.device_port.specs.Device.{DeviceTold}
use Rattle.device_port.specs.Sink.{SinkTold}
use Rattle.eval_rules.specs.Answers.{groups_of}
use Rattle.lone_stream.specs.Ran.{RunsLone}
use Rattle.lone_stream.specs.declared.run.Ran.{Ran}
use Rattle.par_eval.specs.Messages.{AreResults, Meaning}
use Rattle.par_eval.specs.declared.work.Worked.{Worked}
use Rattle.pull_nodes.specs.Plain.{IsFront}
use Rattle.pull_nodes.specs.declared.node.Node.{Node}
use Rattle.res_ledger.specs.declared.event.StreamNo.TheVariants.{Inner}
use Rattle.run_rules.specs.Facts.{is_over}
use Rattle.eval_run.specs.Printing.{Printed}
use Rattle.eval_run.specs.Pumping.{AreTexts}
use Rattle.eval_run.specs.declared.stop.Stop.{Stop}

-- Of lines that were read, whose reading ended so, these are the groups where nothing stopped it; and else the first ones, whatever more a reading would give that was left.
abbrev pub AreGroups : ℕ → List Element → How → List (List Element) → Option Stop → Type 0
AreGroups n given h gs None = (is_over h ≡ true) × (groups_of n given ≡ gs)
AreGroups n given h gs (Some s) = (more : List Element) → (is_over h ≡ true → more ≡ []) → IsFront gs (groups_of n (given ++ more))

-- texts of groups of these lines were worked on, whose reading ended so, and what came of them was printed up to where this stopped it
pub record HasEvaluated (f : Meaning) (n : ℕ) (given : List Element) (h : How) (old new : SinkTold) (s : Option Stop) : Type 0 where
  pub ds : List Load
  pub gs : List (List Element)
  pub ws : List Worked
  pub texts : AreTexts ds gs
  pub groups : AreGroups n given h gs s
  pub printed : Printed old new ws s
  pub results : AreResults f ds ws
  pub count : length ws ≡ length ds

-- the node ran over its devices and gave lines, groups of which were worked on and printed
pub record Evaluated {V : Type 0} (told : V → DeviceTold) (f : Meaning) (n : ℕ) (node : Node) (devices : List V) (old new : SinkTold) (r : Ran V) (s : Option Stop) : Type 0 where
  pub given : List Element
  pub runs : RunsLone told (Inner 0) node devices given r
  pub evaluated : HasEvaluated f n given r.how old new s
