use Rattle.std.proofs.Common.{refl, sym}
use Rattle.csv.specs.Records.{fields_of}
use Rattle.csv_pipes.proofs.Tables.{lacks_first, lacks_second, taken}
use Rattle.csv_pipes.proofs.table.Draft.take.Goals as goal

pub returns-in_default : goal.returns-in_default
returns-in_default c = λ seen h. lacks_second (fields_of c.args.record.now) (sym c.in_default.ensures'.value)

pub returns-in_default-2 : goal.returns-in_default-2
returns-in_default-2 c = λ seen h. lacks_first (fields_of c.args.record.now) (sym c.in_default.ensures.value)

pub returns : goal.returns
returns c = λ seen h.
    taken seen (fields_of c.args.record.now) c.in-Some-Some.key.now c.in-Some-Some.value.now c.args.self.now _ (sym c.in-Some-Some.ensures.value) (sym c.in-Some-Some.ensures'.value) c.in_ok-add.ensures refl h
