use Rattle.std.proofs.Common.{◌≡◌, drop}
use Rattle.plan_work.specs.Seen.{visible_in}
use Rattle.collector.proofs.tables.visible_in.Given as goal

abbrev pub invariant-loop-group : goal.invariant-loop-group
invariant-loop-group l = visible_in l.top l.groups l.k ≡ visible_in l.top (drop l.group-index l.groups) l.k
