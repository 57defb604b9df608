use Rattle.std.proofs.Common.{◌≡◌, ◌++◌, take}
use Rattle.stream_ops.proofs.loads.RowAppended.append.Given as goal

abbrev pub invariant-loop-other : goal.invariant-loop-other
invariant-loop-other l = l.items.items ≡ l.fn.items.items ++ take l.other-index l.fn.others
