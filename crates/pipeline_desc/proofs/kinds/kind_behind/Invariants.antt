use Rattle.std.proofs.Common.{◌≡◌, ◌+◌, drop}
use Rattle.pipeline_desc.specs.Steps.{kind_from}
use Rattle.pipeline_desc.proofs.kinds.kind_behind.Given as goal

abbrev pub invariant-loop-i : goal.invariant-loop-i
invariant-loop-i l = kind_from l.k l.first l.steps l.fn.input ≡ kind_from l.k (l.first + l.i) (drop l.i l.steps) l.kind
