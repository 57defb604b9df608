use Rattle.std.proofs.Common.{◌≡◌, map, take}
use Rattle.std.specs.Char.{to_ascii_uppercase}
use Rattle.text_pipes.proofs.upper.upper_lines.Given as goal

abbrev pub invariant-loop-line : goal.invariant-loop-line
invariant-loop-line l = l.upper.items ≡ map (map to_ascii_uppercase) (take l.line-index l.lines)
