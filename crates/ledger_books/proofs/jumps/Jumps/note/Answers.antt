use Rattle.std.proofs.Common.{Result, Ok, Err}
use Rattle.std.specs.Prelude.{OnOk}
use Rattle.ledger_books.proofs.Jumping.{leads_open, leads_still}
use Rattle.ledger_books.proofs.jumps.Jumps.note.Goals as goal

on_ok : {T E A B : Type 0} (r : Result T E) → (A → B) → OnOk r A → OnOk r B
on_ok (Ok x) f a = f a
on_ok (Err e) f a = tt

pub returns-in-Open : goal.returns-in-Open
returns-in-Open c = on_ok c.open.result (λ o P f. leads_open c.args.self.now c.open.new.self P c.args.event c.in-Open.scope c.in-Open.parent o.0 c.in-Open.is o.1 (o.2 P) o.3 f) c.open.ensures

pub returns-in_default : goal.returns-in_default
returns-in_default c = λ P f. leads_still c.args.self.now P c.args.event f
