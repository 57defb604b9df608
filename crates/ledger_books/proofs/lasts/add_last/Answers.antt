use Rattle.std.proofs.Common.{Result, Ok, Err, subst}
use Rattle.std.specs.Prelude.{OnOk}
use Rattle.ledger_books.specs.Keyed.{number_of}
use Rattle.ledger_books.specs.Untils.{Raises}
use Rattle.ledger_books.proofs.Lasting.{lasts_more, lasts_still}
use Rattle.ledger_books.proofs.lasts.add_last.Goals as goal

on_ok : {T E A B : Type 0} (r : Result T E) → (A → B) → OnOk r A → OnOk r B
on_ok (Ok x) f a = f a
on_ok (Err e) f a = tt

pub returns-in-Acquire : goal.returns-in-Acquire
returns-in-Acquire c = on_ok c.raise.result (λ u P f. lasts_more c.args.lasts.now c.raise.new.latest c.args.ends.now P c.args.event c.in-Acquire.row c.in-Acquire.scope c.in-Acquire.is (subst (Raises c.args.lasts.now c.raise.new.latest (number_of c.args.event.by)) c.last.ensures u) f) c.raise.ensures

pub returns-in_default : goal.returns-in_default
returns-in_default c = λ P f. lasts_still c.args.lasts.now c.args.ends.now P c.args.event c.in_default.not-Acquire f
