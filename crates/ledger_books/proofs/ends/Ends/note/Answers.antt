use Rattle.std.proofs.Common.{Result, Ok, Err}
use Rattle.std.specs.Prelude.{OnOk}
use Rattle.ledger_books.proofs.Ending.{foresees_open, foresees_still}
use Rattle.ledger_books.proofs.ends.Ends.note.Goals as goal

on_ok : {T E A B : Type 0} (r : Result T E) → (A → B) → OnOk r A → OnOk r B
on_ok (Ok x) f a = f a
on_ok (Err e) f a = tt

pub returns-in-Open-clause-foresees : goal.returns-in-Open-clause-foresees
returns-in-Open-clause-foresees c = on_ok c.open.result (λ o L P Q l legal f. foresees_open c.args.self.now c.open.new.self L P c.args.event legal f c.in-Open.scope c.in-Open.parent c.in-Open.is o) c.open.ensures

pub returns-in-Open-clause-firsts : goal.returns-in-Open-clause-firsts
returns-in-Open-clause-firsts c = on_ok c.open.result (λ o. o.firsts) c.open.ensures

pub returns-in_default-clause-foresees : goal.returns-in_default-clause-foresees
returns-in_default-clause-foresees c = λ L P Q l legal f. foresees_still c.args.self.now L P c.args.event legal f c.in_default.not-Open
