use Rattle.std.proofs.Common.{[], refl}
use Rattle.chunk_core.specs.declared.code.Exit.TheVariants.{Succeeded}
use Rattle.tree_scripts.proofs.Leased.{cancel_free, leased_and_canceled}
use Rattle.tree_scripts.proofs.short.lease_and_cancel.Goals as goal

pub close-requires-clause-scope : goal.close-requires-clause-scope
close-requires-clause-scope g c = c.lease.ensures.scopes.usable 0 c.two_rows-tree.ensures.two.root

pub cancel-requires-clause-may : goal.cancel-requires-clause-may
cancel-requires-clause-may g c = c.close.ensures.leases.may c.in-Ok.lease.stream Succeeded c.in-Ok.ensures.leases.other (c.in-Ok.ensures.leases.may_it Succeeded)

pub cancel-requires-clause-pairs : goal.cancel-requires-clause-pairs
cancel-requires-clause-pairs g c = λ r m. c.close.ensures.leases.pairs c.in-Ok.lease.stream r (c.in-Ok.ensures.pairs r m)

pub cancel-requires-clause-free : goal.cancel-requires-clause-free
cancel-requires-clause-free g c = cancel_free c.two_rows-tree.ensures.two c.in-Ok.ensures.ok.1 c.lease.ensures.owed c.close.ensures.closes c.close.ensures.free (c.close.ensures.owed refl)

pub finish_alone-ledger-requires-clause-leases : goal.finish_alone-ledger-requires-clause-leases
finish_alone-ledger-requires-clause-leases g c = c.cancel.ensures.leases.only [] (c.close.ensures.leases.only _ (c.in-Ok.ensures.leases.only [] c.two_rows-tree.ensures.two.leases))

pub close-requires-in-Err-clause-scope : goal.close-requires-in-Err-clause-scope
close-requires-in-Err-clause-scope g c = c.lease.ensures.scopes.usable 0 c.two_rows-tree.ensures.two.root

pub finish_alone-requires-clause-leases : goal.finish_alone-requires-clause-leases
finish_alone-requires-clause-leases g c = c.close-in-Err.ensures.leases.only [] (c.in-Err.ensures.kept.only [] c.two_rows-tree.ensures.two.leases)

pub returns-in-Ok : goal.returns-in-Ok
returns-in-Ok g c =
    let o = c.in-Ok.ensures in let k = c.close.ensures in let only = k.leases.only _ (o.leases.only [] c.two_rows-tree.ensures.two.leases) in
    leased_and_canceled c.two_rows-tree.ensures.two o.ok.0 o.ok.1 c.lease.ensures.rights o.pairs k.closes k.rights (k.owed refl) only c.cancel.ensures.cancels c.finish_alone-ledger.ensures.ledger c.finish_alone-ledger.ensures.rising

pub finish_alone-ledger-requires-clause-closed : goal.finish_alone-ledger-requires-clause-closed
finish_alone-ledger-requires-clause-closed g c = c.cancel.ensures.scopes.closed 0 c.close.ensures.closed
