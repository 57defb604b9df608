use Rattle.std.proofs.Common.{◌≡◌, map, take}
use Rattle.digest_parts.specs.Plan.{lines_of}
use Rattle.digest_parts.proofs.plan.streams_of.Given as goal

abbrev pub invariant-loop-path : goal.invariant-loop-path
invariant-loop-path l = l.streams ≡ map lines_of (take l.path-index l.paths)
