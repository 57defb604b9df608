use Rattle.std.proofs.Common.{inl, refl, sym, subst}
use Rattle.scope_tree.specs.Calls.{IsOpenScope}
use Rattle.scope_tree.specs.Trees.{seen}
use Rattle.tree_scripts.specs.Waiting.{IsAlone, CancelsAndFinishes}
use Rattle.tree_scripts.proofs.Endings.{root_leased}
use Rattle.tree_scripts.proofs.ThreeRows.{three_alone, three_open, three_unleased}
use Rattle.tree_scripts.proofs.scripts.lease_the_root.Goals as goal
use Rattle.chunk_core.specs.declared.code.Exit.TheVariants.{Canceled}

pub lease_and_close-requires-clause-alone : goal.lease_and_close-requires-clause-alone
lease_and_close-requires-clause-alone g c = three_alone c.three_rows-tree.ensures.three

pub lease_and_close-requires-clause-scope : goal.lease_and_close-requires-clause-scope
lease_and_close-requires-clause-scope g c = three_open c.three_rows-tree.ensures.three 0 (inl refl)

pub lease_and_close-requires-clause-stream : goal.lease_and_close-requires-clause-stream
lease_and_close-requires-clause-stream g c = three_unleased c.three_rows-tree.ensures.three 5

pub close_and_finish-requires-clause-alone : goal.close_and_finish-requires-clause-alone
close_and_finish-requires-clause-alone g c = subst (λ a. IsAlone a.seat) (sym c.in-Err.ensures.err) (three_alone c.three_rows-tree.ensures.three)

pub close_and_finish-requires-clause-root : goal.close_and_finish-requires-clause-root
close_and_finish-requires-clause-root g c = subst (λ a. IsOpenScope a 0) (sym c.in-Err.ensures.err) (three_open c.three_rows-tree.ensures.three 0 (inl refl))

pub returns-in-Ok : goal.returns-in-Ok
returns-in-Ok g c =
    let t = c.three_rows-tree.ensures in let y = c.lease_and_close.new.tree in let e = c.in-Ok.ensures in let x = c.cancel_and_finish in
    root_leased t.three t.fits.sound.kept.holds.once e.calls.1 (subst (λ j. CancelsAndFinishes g.S.Pay.Finish.ends (seen g.S.RowSeat.view y) j c.in-Ok.lease.rows.items Canceled x.result.0 x.result.1) e.calls.0 x.ensures)
