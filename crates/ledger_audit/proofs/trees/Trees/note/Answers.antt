use Rattle.std.proofs.Common.{Result, Ok, Err, subst, cond, ◌++◌, ◌∷◌, []}
use Rattle.std.specs.Prelude.{OnOk}
use Rattle.ledger_audit.specs.Lists.{IsList, adds}
use Rattle.ledger_audit.proofs.Noting.{trees_open, trees_acquire, trees_same, no_open, no_acquire}
use Rattle.ledger_audit.proofs.trees.Trees.note.Goals as goal

on_ok : {T E A B : Type 0} (r : Result T E) → (A → B) → OnOk r A → OnOk r B
on_ok (Ok x) f a = f a
on_ok (Err e) f a = tt

pub returns-in-Open : goal.returns-in-Open
returns-in-Open c = on_ok c.add.result
    (λ b P h. trees_open c.args.self.now P c.args.event h c.add.new.self c.in-Open.scope c.in-Open.parent c.in-Open.is
    (λ k n xs l. subst (λ m. IsList c.add.new.self k n (cond (adds m c.in-Open.parent k n) (xs ++ c.in-Open.scope ∷ []) xs)) c.number-stream.ensures (b k n xs l)))
    c.add.ensures

pub returns-in-Acquire : goal.returns-in-Acquire
returns-in-Acquire c = on_ok c.add-in-Acquire.result
    (λ b P h. trees_acquire c.args.self.now P c.args.event h c.add-in-Acquire.new.self c.in-Acquire.row c.in-Acquire.scope c.in-Acquire.is
    (λ k n xs l. subst (λ m. IsList c.add-in-Acquire.new.self k n (cond (adds m c.in-Acquire.scope k n) (xs ++ c.in-Acquire.row ∷ []) xs)) c.number-stream.ensures (b k n xs l)))
    c.add-in-Acquire.ensures

pub returns-in_default : goal.returns-in_default
returns-in_default c = λ P h. trees_same c.args.self.now P c.args.event h (no_open c.args.event.what c.in_default.not-Open) (no_acquire c.args.event.what c.in_default.not-Acquire)
