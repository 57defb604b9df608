use Rattle.std.proofs.Common.{◌≡◌, ◌++◌, length}
use Rattle.pull_nodes.specs.Hex.{hex_lines}
use Rattle.pull_nodes.specs.Plain.{ungrouped}
use Rattle.text_pipes.proofs.hexadecimal.push_groups.Given as goal

abbrev pub invariant-groups : goal.invariant-groups
invariant-groups l = record {
  lines : l.lines.items ++ hex_lines l.left ≡ l.fn.lines.items ++ hex_lines l.fn.bytes;
  rest : ungrouped 16 l.left ≡ ungrouped 16 l.fn.bytes;
}

abbrev pub decreases-groups : goal.decreases-groups
decreases-groups l = length l.left
