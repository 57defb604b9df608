use Rattle.std.proofs.Common.{arith}
use Rattle.toml.specs.Data.{as_table}
use Rattle.toml.specs.View.{table_view}
use Rattle.pipeline_desc.specs.Groups.{described_view}
use Rattle.pipeline_desc.specs.Values.{seen_as}
use Rattle.pipeline_desc.proofs.Each.{handed_on}
use Rattle.pipeline_desc.proofs.Entries.{entry_at, entry_there}
use Rattle.pipeline_desc.proofs.Groups.{group_fails, group_next, groups_end}
use Rattle.pipeline_desc.proofs.Seen.{length_seen}
use Rattle.pipeline_desc.proofs.described.groups.Goals as goal

pub unreachable-requires : goal.unreachable-requires
unreachable-requires c = entry_there as_table c.args.values.now c.requires c.loop-i.i c.index-values-i.result (omega arith) c.index-values-i.is c.in_default.ensures

pub loop-i-preserved : goal.loop-i-preserved
loop-i-preserved c =
    group_next (described_view c.loop-i.all) (seen_as as_table c.args.values.now) _ c.loop-i.i c.loop-i.invariant (table_view c.in-Some.table.now) (described_view c.in_ok-all.all)
    (entry_at as_table c.args.values.now c.requires c.loop-i.i c.index-values-i.result (omega arith) c.index-values-i.is (table_view c.in-Some.table.now) c.in-Some.ensures) c.in_ok-all.ensures

pub returns-in_err-all : goal.returns-in_err-all
returns-in_err-all c =
    handed_on described_view c.from_residual.result _ _ c.from_residual.ensures.1
    (group_fails (described_view c.loop-i.all) (seen_as as_table c.args.values.now) _ c.loop-i.i c.loop-i.invariant (table_view c.in-Some.table.now) _
    (entry_at as_table c.args.values.now c.requires c.loop-i.i c.index-values-i.result (omega arith) c.index-values-i.is (table_view c.in-Some.table.now) c.in-Some.ensures) c.in_err-all.ensures)

pub returns : goal.returns
returns c =
    groups_end (described_view c.loop-i.all) (seen_as as_table c.args.values.now) _ c.loop-i.i c.loop-i.invariant (let count = length_seen as_table c.args.values.now c.requires in omega (arith, count))
