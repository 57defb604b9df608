use Rattle.std.proofs.Common.{ap, arith}
use Rattle.pipeline_desc.specs.Meant.{stream_limit}
use Rattle.pipeline_desc.proofs.NodeLaws.{limit_le}
use Rattle.pipeline_desc.proofs.plan.Plan.stream_limit.Goals as goal

pub overflow_add-result : goal.overflow_add-result
overflow_add-result c = let limit = limit_le _ c.self.invariant in omega (arith, limit, c.len.ensures, c.listed_limit.ensures)

pub returns-clause-value : goal.returns-clause-value
returns-clause-value c = let same = ap stream_limit c.self.view_is in omega (arith, same, c.len.ensures, c.listed_limit.ensures)

pub returns-clause-few : goal.returns-clause-few
returns-clause-few c = let limit = limit_le _ c.self.invariant in omega (arith, limit, c.len.ensures, c.listed_limit.ensures)
