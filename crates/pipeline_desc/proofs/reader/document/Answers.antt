use Rattle.std.proofs.Common.{Some, None}
use Rattle.std.proofs.lemmas.Bool.{both_ways}
use Rattle.toml.specs.View.{table_view}
use Rattle.pipeline_desc.proofs.Documents.{not_text, of_text}
use Rattle.pipeline_desc.proofs.reader.document.Goals as goal

pub returns-in_default : goal.returns-in_default
returns-in_default c = rw c.refuse-in_default.ensures (not_text c.args.bytes.now c.if-bytes-gt-LONGEST.false c.in_default.ensures.cases.0)

pub returns-in-Ok-table_from_str : goal.returns-in-Ok-table_from_str
returns-in-Ok-table_from_str c =
    of_text c.args.bytes.now (Some (table_view c.in-Ok-table_from_str.table)) c.if-bytes-gt-LONGEST.false c.in-Ok.ensures.cases.1 (rw c.in-Ok.ensures.cases.0 at c.in-Ok-table_from_str.ensures.ok)

pub returns-else-is_memory : goal.returns-else-is_memory
returns-else-is_memory c =
    let none = c.in-Err.ensures.refused (λ m. both_ways _ c.if-is_memory.false (c.is_memory.ensures.1 m)) in
    rw c.refuse-else-is_memory.ensures (of_text c.args.bytes.now None c.if-bytes-gt-LONGEST.false c.in-Ok.ensures.cases.1 (rw c.in-Ok.ensures.cases.0 at none))
