use Rattle.std.proofs.Common.{refl}
use Rattle.cut_text.proofs.run.pass_piece.Goals as goal

pub returns-in-Err : goal.returns-in-Err
returns-in-Err g c = (c.in-Ok.fed, c.in-Ok.ensures, rw c.as_slice.ensures.value at c.in-Err.ensures)

pub returns-in-Ok-put : goal.returns-in-Ok-put
returns-in-Ok-put g c = (c.in-Ok.fed, c.in-Ok.ensures, c.if-fed.true, refl, rw c.as_slice.ensures.value at c.in-Ok-put.ensures)

pub returns : goal.returns
returns g c = (c.in-Ok.fed, c.in-Ok.ensures, c.if-fed.false, refl, rw c.as_slice.ensures.value at c.in-Ok-2.ensures)
