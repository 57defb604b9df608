use Rattle.std.proofs.Common.{◌<◌, sym, subst, arith, length}
use Rattle.std.proofs.lemmas.Bool.{ltb-true, lt-ltb}
use Rattle.ledger_books.proofs.Ending.{closed_by_end}
use Rattle.ledger_books.proofs.scopes.is_closed.Goals as goal

pub returns : goal.returns
returns c =
    let n = length c.args.past.now in
    let t = closed_by_end c.args.ends.now c.args.past.now c.requires (omega arith) c.args.by c.args.scope in
    let e = c.end.ensures in (
      (λ h. t.0 (subst (λ z. z < n) e (ltb-true c.end.result n h))),
      (λ z. lt-ltb c.end.result n (subst (λ x. x < n) (sym e) (t.1 z))),
    )
