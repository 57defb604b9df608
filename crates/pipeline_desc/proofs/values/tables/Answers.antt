use Rattle.std.proofs.Common.{arith}
use Rattle.toml.specs.Data.{get_member}
use Rattle.toml.specs.View.{table_view}
use Rattle.pipeline_desc.proofs.Seen.{tables_few, tables_many}
use Rattle.pipeline_desc.proofs.values.tables.Goals as goal

pub returns-then-values-most-clause-meant : goal.returns-then-values-most-clause-meant
returns-then-values-most-clause-meant c =
    rw c.refuse.ensures (tables_many c.args.most (get_member c.args.key.now (table_view c.args.table.now)) c.in_ok-values.values.now c.in_ok-values.ensures.seen c.in_ok-values.ensures.meant (omega arith))

pub returns-clause-meant : goal.returns-clause-meant
returns-clause-meant c =
    tables_few c.args.most (get_member c.args.key.now (table_view c.args.table.now)) c.in_ok-values.values.now c.in_ok-values.ensures.seen c.in_ok-values.ensures.meant (omega arith)
