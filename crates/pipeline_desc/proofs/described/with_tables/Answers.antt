use Rattle.std.proofs.Common.{◌≡◌, ◌∷◌, ◌++◌, [], Ok, ap, arith, rules}
use Rattle.toml.specs.Data.{as_table}
use Rattle.toml.specs.View.{table_view}
use Rattle.pipeline_desc.specs.Values.{seen_as}
use Rattle.pipeline_desc.proofs.Entries.{entry_at, entry_there}
use Rattle.pipeline_desc.proofs.Groups.{members_end, members_more}
use Rattle.pipeline_desc.proofs.Seen.{length_seen}
use Rattle.pipeline_desc.proofs.described.with_tables.Goals as goal

pub unreachable-requires : goal.unreachable-requires
unreachable-requires c = entry_there as_table c.args.values.now c.requires c.loop-i.i c.index-values-i.result (omega arith) c.index-values-i.is c.in_default.ensures

pub loop-i-preserved : goal.loop-i-preserved
loop-i-preserved c =
    let pushed : c.push.new.self ≡ c.loop-i.all ++ c.in-Some.table ∷ [] = search rules in
    rw pushed
    (members_more c.loop-i.all c.in-Some.table c.loop-i.i (seen_as as_table c.args.values.now) _ c.loop-i.invariant
    (entry_at as_table c.args.values.now c.requires c.loop-i.i c.index-values-i.result (omega arith) c.index-values-i.is (table_view c.in-Some.table.now) c.in-Some.ensures))

pub returns : goal.returns
returns c =
    ap (λ l. Ok l) (members_end c.loop-i.all c.loop-i.i (seen_as as_table c.args.values.now) _ c.loop-i.invariant (let count = length_seen as_table c.args.values.now c.requires in omega (arith, count)))
