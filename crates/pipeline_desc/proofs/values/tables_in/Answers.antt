use Rattle.std.proofs.Common.{◌∙◌, sym}
use Rattle.toml.specs.Data.{as_table}
use Rattle.pipeline_desc.specs.declared.refusal.Position.TheVariants.{Nowhere}
use Rattle.pipeline_desc.proofs.Seen.{all_seen, list_found, list_refused}
use Rattle.pipeline_desc.proofs.values.tables_in.Goals as goal

pub returns-then-not-are_tables-clause-meant : goal.returns-then-not-are_tables-clause-meant
returns-then-not-are_tables-clause-meant c =
    rw c.refuse.ensures (list_refused as_table Nowhere _ c.in_ok-values.values.now c.in_ok-values.ensures (sym c.are_tables.ensures ∙ c.if-not-are_tables.true))

pub returns-clause-meant : goal.returns-clause-meant
returns-clause-meant c = list_found as_table Nowhere _ c.in_ok-values.values.now c.in_ok-values.ensures (sym c.are_tables.ensures ∙ c.if-not-are_tables.false)

pub returns-clause-seen : goal.returns-clause-seen
returns-clause-seen c = sym (all_seen as_table c.in_ok-values.values.now) ∙ (sym c.are_tables.ensures ∙ c.if-not-are_tables.false)
