use Rattle.std.proofs.Common.{◌≡◌, drop}
use Rattle.pipeline_desc.specs.Meant.{own_tables}
use Rattle.pipeline_desc.proofs.setting.own_tables.Given as goal

abbrev pub invariant-loop-group : goal.invariant-loop-group
invariant-loop-group l = own_tables l.groups l.k ≡ own_tables (drop l.group-index l.groups) l.k
