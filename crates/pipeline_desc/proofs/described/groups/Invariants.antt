use Rattle.std.proofs.Common.{◌≡◌, drop}
use Rattle.toml.specs.Data.{as_table}
use Rattle.pipeline_desc.specs.Groups.{described_view}
use Rattle.pipeline_desc.specs.Plans.{groups_meant}
use Rattle.pipeline_desc.specs.Values.{seen_as}
use Rattle.pipeline_desc.proofs.described.groups.Given as goal

abbrev pub invariant-loop-i : goal.invariant-loop-i
invariant-loop-i l = groups_meant (described_view l.fn.described) (seen_as as_table l.values) ≡ groups_meant (described_view l.all) (drop l.i (seen_as as_table l.values))
