use Rattle.std.proofs.Common.{◌≡◌, string_bytes, take}
use Rattle.std.specs.List.{flat_map}
use Rattle.run_rules.specs.Texts.{end_line}
use Rattle.flume_cli.proofs.tail.tail_of.Given as goal

-- the lines of the ends so far
abbrev pub invariant-loop-end : goal.invariant-loop-end
invariant-loop-end l = string_bytes l.lines ≡ flat_map end_line (take l.end-index l.end-items)
