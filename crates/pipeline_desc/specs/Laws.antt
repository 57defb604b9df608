-- What holds of every plan.
use Rattle.std.specs.Prelude.{◌≡◌, ◌↔◌, ℕ, List, Some, slice_get}
use Rattle.chunk_core.specs.Elements.{Element}
use Rattle.chunk_core.specs.Outcomes.{End}
use Rattle.chunk_core.specs.Tables.{Values}
use Rattle.device_port.specs.Device.{DeviceTold, Place}
use Rattle.device_port.specs.declared.device.Mode.TheVariants as mode
use Rattle.pull_nodes.specs.Runs.{IsIdealRun, IsRun}
use Rattle.pull_nodes.specs.declared.node.Node.{Node}
use Rattle.pipeline_desc.specs.Meant.{PlanMeant}
use Rattle.pipeline_desc.specs.Nodes.{IsNodeOf}
use Rattle.pipeline_desc.specs.Places.{all_places}
use Rattle.pipeline_desc.specs.Sound.{IsSoundPlan}

-- two nodes have the same runs, and the same ideal runs
pub record RunAlike (m n : Node) : Type 0 where
  pub runs : (t : Values) (w : ℕ → DeviceTold) (ys : List Element) (e : End) → IsRun t w m ys e ↔ IsRun t w n ys e
  pub ideal_runs : (t : Values) (w : ℕ → DeviceTold) (ys : List Element) (e : End) → IsIdealRun t w m ys e ↔ IsIdealRun t w n ys e

-- what a stream may give doesn't depend on which node was made of it
abbrev pub NodesRunAlike : Type 0
NodesRunAlike = (p : PlanMeant) (k : ℕ) (m n : Node) → IsNodeOf p k m → IsNodeOf p k n → RunAlike m n

-- the path of a row that is written is that of no other row of the plan
abbrev pub WrittenPathsStandAlone : Type 0
WrittenPathsStandAlone =
    (p : PlanMeant) → IsSoundPlan p → (r q : ℕ) (a b : Place) → slice_get (all_places p.tables p.list p.streams) r ≡ Some a → slice_get (all_places p.tables p.list p.streams) q ≡ Some b
    → a.mode ≡ mode.Write → a.path ≡ b.path → r ≡ q
