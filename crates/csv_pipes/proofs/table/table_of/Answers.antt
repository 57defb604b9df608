use Rattle.std.proofs.Common.{◌∙◌, refl, sym}
use Rattle.std.proofs.lemmas.Result.{IfErr-weaker, IfOk-weaker}
use Rattle.csv_pipes.proofs.Tables.{fault_by_records, not_utf8, refused_by}
use Rattle.pull_nodes.specs.Csv.{records_of}
use Rattle.csv_pipes.proofs.table.table_of.Goals as goal

pub returns-in_default-clause-refused : goal.returns-in_default-clause-refused
returns-in_default-clause-refused c = not_utf8 c.args.bytes.now c.if-bytes-gt-MOST_GATHERED.false c.in_default.ensures

pub new-requires : goal.new-requires
new-requires c = record { known = (c.args.bytes.now, refl) }

pub returns-clause-fine : goal.returns-clause-fine
returns-clause-fine c =
    let xs = c.args.bytes.now in
    let same = fault_by_records xs c.if-bytes-gt-MOST_GATHERED.false c.in-Ok.ensures.1 in
    IfOk-weaker c.read_rows.result _ _ (λ dict table. sym same ∙ (table (records_of xs) (c.in_ok-new.ensures xs refl)).0) c.read_rows.ensures.ok

pub returns-clause-refused : goal.returns-clause-refused
returns-clause-refused c =
    let xs = c.args.bytes.now in
    let same = fault_by_records xs c.if-bytes-gt-MOST_GATHERED.false c.in-Ok.ensures.1 in
    IfErr-weaker c.read_rows.result _ _ (λ why refused. refused_by xs why same (refused (records_of xs) (c.in_ok-new.ensures xs refl))) c.read_rows.ensures.refused
