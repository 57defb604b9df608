use Rattle.std.proofs.Common.{◌≡◌, filter, take}
use Rattle.pull_nodes.specs.Filter.{contains}
use Rattle.stream_ops.proofs.filter.keep.Given as goal

abbrev pub invariant-loop-line : goal.invariant-loop-line
invariant-loop-line l = l.kept.items ≡ filter (contains l.finder) (take l.line-index l.lines)
