use Rattle.std.proofs.Common.{◌≡◌, ◌++◌, take}
use Rattle.chain_pipes.proofs.joining.push_lines.Given as goal

abbrev pub invariant-loop-line : goal.invariant-loop-line
invariant-loop-line l = l.items.items ≡ l.fn.items.items ++ take l.line-index l.lines
