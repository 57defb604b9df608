use Rattle.chunk_core.specs.declared.code.Exit.TheVariants.{Succeeded}
use Rattle.scope_tree.specs.Calls.{IsOpenScope}
use Rattle.scope_tree.specs.Trees.{seen}
use Rattle.join_tree.proofs.Children.{closes_child, root_stays_open}
use Rattle.join_tree.proofs.Growing.{root_open}
use Rattle.join_tree.proofs.Keeping.{keeps_closes}
use Rattle.join_tree.proofs.Paying.{close_pays}
use Rattle.join_tree.proofs.Given.{close_child_gives}
use Rattle.join_tree.proofs.outer.close_child.Goals as goal

pub returns-clause-main : goal.returns-clause-main
returns-clause-main g c width n p h root =
    let view = g.S.RowSeat.view in
    let b = seen view c.args.tree.now in
    let d = seen view c.close.new.self in
    let o = c.close.ensures.closes in
    let still : IsOpenScope d 0 = root_stays_open b d c.args.scope Succeeded c.args.tree.now.branches.items c.args.tree.now.acquisitions.items c.requires.fits.sound.kept c.requires.child.0 (root_open h root) o in
    closes_child b d p c.args.scope Succeeded h root c.requires.child.0 c.requires.child.1 o still

pub returns-clause-guests : goal.returns-clause-guests
returns-clause-guests g c = keeps_closes (seen g.S.RowSeat.view c.args.tree.now) (seen g.S.RowSeat.view c.close.new.self) c.args.scope Succeeded c.requires.child.1 c.close.ensures.closes

pub returns-clause-rows : goal.returns-clause-rows
returns-clause-rows g c = close_pays (seen g.S.RowSeat.view c.args.tree.now) (seen g.S.RowSeat.view c.close.new.self) c.args.scope Succeeded c.requires.fits.sound.kept.holds.once c.close.ensures.closes

pub returns-clause-gives : goal.returns-clause-gives
returns-clause-gives g c = close_child_gives (seen g.S.RowSeat.view c.args.tree.now) (seen g.S.RowSeat.view c.close.new.self) c.args.scope Succeeded c.requires.child.0 c.close.ensures.closes
