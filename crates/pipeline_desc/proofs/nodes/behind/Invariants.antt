use Rattle.std.proofs.Common.{drop}
use Rattle.pull_nodes.specs.declared.node.Node.{Node}
use Rattle.pipeline_desc.specs.Nodes.{IsBehind}
use Rattle.pipeline_desc.proofs.nodes.behind.Given as goal

abbrev pub invariant-loop-step : goal.invariant-loop-step
invariant-loop-step l = (n : Node) → IsBehind (drop l.step-index l.steps) l.node n → IsBehind l.steps l.fn.part n
