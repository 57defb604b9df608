use Rattle.std.proofs.Common.{sym, subst}
use Rattle.scope_tree.specs.Trees.{seen}
use Rattle.tree_scripts.specs.Waiting.{WaitsForCancel}
use Rattle.tree_scripts.proofs.Waits.{lease_open, lease_waits, root_open}
use Rattle.tree_scripts.proofs.scripts.lease_and_close.Goals as goal

pub close-requires-clause-scope : goal.close-requires-clause-scope
close-requires-clause-scope g c =
    let t = c.args.tree.now in let z = c.requires.fits.sound in let bs = t.branches.items in let hs = t.acquisitions.items in let o = c.in_ok-lease.ensures.ok.1 in
    lease_open bs hs z.kept z.shelved c.requires.scope o 0 (root_open bs hs z.kept z.shelved c.requires.scope o)

pub returns-clause-waits : goal.returns-clause-waits
returns-clause-waits g c =
    let t = c.args.tree.now in let z = c.requires.fits.sound in let y = c.close.ensures.fits.sound in let e = c.in_ok-lease.ensures.ok in let u = c.close.new.self in
    subst (λ j. WaitsForCancel (seen g.S.RowSeat.view u) j c.in_ok-lease.lease.rows.items) (sym e.0)
    (lease_waits t.branches.items t.acquisitions.items z.kept z.shelved c.requires.scope e.1 u.branches.items u.acquisitions.items y.kept y.shelved c.requires.alone c.requires.stream.0 c.requires.free c.close.ensures.closes)
