use Rattle.std.proofs.Common.{◌≡◌, ◌++◌, take}
use Rattle.list_lines.proofs.lines.append_lines.Given as goal

abbrev pub invariant-loop-line : goal.invariant-loop-line
invariant-loop-line l = l.waiting.items ≡ l.fn.waiting.items ++ take l.line-index l.lines
