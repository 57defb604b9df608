use Rattle.std.proofs.Common.{◌≡◌, ◌++◌, drop}
use Rattle.toml.specs.Data.{as_table}
use Rattle.pipeline_desc.specs.Groups.{members_of}
use Rattle.pipeline_desc.specs.Values.{seen_as}
use Rattle.pipeline_desc.proofs.described.with_tables.Given as goal

abbrev pub invariant-loop-i : goal.invariant-loop-i
invariant-loop-i l = members_of l.all ++ drop l.i (seen_as as_table l.values) ≡ members_of l.fn.found ++ seen_as as_table l.values
