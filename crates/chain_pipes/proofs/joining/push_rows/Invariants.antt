use Rattle.std.proofs.Common.{◌≡◌, ◌++◌, take}
use Rattle.chain_pipes.proofs.joining.push_rows.Given as goal

abbrev pub invariant-loop-row : goal.invariant-loop-row
invariant-loop-row l = l.items.items ≡ l.fn.items.items ++ take l.row-index l.rows
