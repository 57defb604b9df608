use Rattle.std.proofs.Common.{◌≡◌, ◌∷◌, map, take}
use Rattle.dealt_streams.specs.Standing.{group_part, top_part}
use Rattle.collector.proofs.parts.parts_of.Given as goal

abbrev pub invariant-loop-group : goal.invariant-loop-group
invariant-loop-group l = l.parts ≡ top_part l.plan ∷ map group_part (take l.group-index l.groups)
