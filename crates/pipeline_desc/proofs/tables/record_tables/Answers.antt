use Rattle.std.proofs.Common.{◌≡◌, Ok, arith, length-append, subst}
use Rattle.toml.specs.View.{table_view}
use Rattle.pipeline_desc.specs.Groups.{members_of}
use Rattle.pipeline_desc.specs.Reading.{RefusesAs}
use Rattle.pipeline_desc.specs.Tables.{table_meant}
use Rattle.pipeline_desc.proofs.Each.{behind_ends, behind_fails, behind_next, handed_on}
use Rattle.pipeline_desc.proofs.Groups.{members_at, members_count}
use Rattle.pipeline_desc.proofs.Settings.{tables_more}
use Rattle.pipeline_desc.proofs.tables.record_tables.Goals as goal

pub returns-in_err-table-clause-meant : goal.returns-in_err-table-clause-meant
returns-in_err-table-clause-meant c =
    let entry = c.index-described-i.result in
    handed_on (λ t. t) c.from_residual.result _ _ c.from_residual.ensures.1
    (behind_fails table_meant (members_of c.args.described.now) _ c.loop-i.tables c.loop-i.i c.loop-i.invariant.read (table_view entry.now) c.in_err-table.field-0.0
    (members_at c.args.described.now c.loop-i.i entry (omega arith) c.index-described-i.is)
    (subst (λ before. RefusesAs c.in_err-table.field-0.0 (table_meant before (table_view entry.now))) c.as_slice.ensures c.in_err-table.ensures.meant))

pub loop-i-preserved : goal.loop-i-preserved
loop-i-preserved c =
    let entry = c.index-described-i.result in
    let t = c.in_ok-table.table in
    record {
      read = rw c.in_ok-push.ensures.ok
          (behind_next table_meant (members_of c.args.described.now) _ c.loop-i.tables c.loop-i.i c.loop-i.invariant.read (table_view entry.now) t
          (members_at c.args.described.now c.loop-i.i entry (omega arith) c.index-described-i.is)
          (subst (λ before. table_meant before (table_view entry.now) ≡ Ok t) c.as_slice.ensures c.in_ok-table.ensures.meant));
      sound = rw c.in_ok-push.ensures.ok (tables_more c.as_slice.result.now c.loop-i.tables t c.as_slice.ensures c.loop-i.invariant.sound c.in_ok-table.ensures.sound);
      count = rw (c.in_ok-push.ensures.ok, length-append) (omega (arith, c.loop-i.invariant.count));
    }

pub returns-clause-meant : goal.returns-clause-meant
returns-clause-meant c =
    behind_ends table_meant (members_of c.args.described.now) _ c.loop-i.tables c.loop-i.i c.loop-i.invariant.read (let count = members_count c.args.described.now in omega (arith, count))
