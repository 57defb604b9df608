use Rattle.std.proofs.Common.{◌∙◌, ap, sym}
use Rattle.csv.specs.Records.{fields_of}
use Rattle.std.specs.Prelude.{unwrap_or}
use Rattle.csv_pipes.specs.Even.{rest_of}
use Rattle.csv_pipes.proofs.Rests.{takes_row}
use Rattle.csv_pipes.proofs.even.EvenRows.next.Goals as goal

pub returns : goal.returns
returns g c =
    let width = c.self.inside.width in
    let fields = fields_of c.next.new.record in
    let taken = rw c.if-not-branch.false at c.in_ok-next.ensures in
    let same = ap (unwrap_or width) (sym c.len-len.ensures) ∙ (sym c.unwrap_or.ensures ∙ (c.if-unwrap_or-len.false ∙ c.len-len.ensures)) in
    sym c.self.view_is ∙ (ap (rest_of width) taken ∙ takes_row width fields c.len-len.result c.next.new.self same c.len-len.ensures)
