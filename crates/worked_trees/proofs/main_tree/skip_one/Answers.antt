use Rattle.std.proofs.Common.{subst, ⊎_elim}
use Rattle.chunk_core.specs.Lists.{IsAmong}
use Rattle.chunk_core.proofs.Members.{among_nil}
use Rattle.worked_trees.proofs.main_tree.skip_one.Goals as goal

pub settle-ledger-requires-clause-main : goal.settle-ledger-requires-clause-main
settle-ledger-requires-clause-main g c = let m = c.pass_over.ensures.main in (1, 1, m.0, m.1, m.2, m.3, m.4)

pub returns-clause-whole : goal.returns-clause-whole
returns-clause-whole g c = let m = c.pass_over.ensures.main in (c.settle-ledger.ensures.settles 1 1 m.0 m.1 m.2 m.3).whole

pub returns-clause-outer : goal.returns-clause-outer
returns-clause-outer g c e i =
    let m = c.pass_over.ensures.main in
    ⊎_elim (λ o. o) (λ y. absurd (among_nil (subst (λ l. IsAmong y.0 l) m.5 y.1))) ((c.settle-ledger.ensures.settles 1 1 m.0 m.1 m.2 m.3).told.whose e i)
