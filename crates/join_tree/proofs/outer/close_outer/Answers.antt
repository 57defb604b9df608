use Rattle.scope_tree.specs.Trees.{seen}
use Rattle.join_tree.proofs.Growing.{main_closes, root_open}
use Rattle.join_tree.proofs.Keeping.{keeps_closes}
use Rattle.join_tree.proofs.Paying.{close_pays}
use Rattle.join_tree.proofs.Given.{close_gives}
use Rattle.tree_laws.specs.Called.Called.{none, closed}
use Rattle.join_tree.proofs.outer.close_outer.Goals as goal

pub returns-clause-main : goal.returns-clause-main
returns-clause-main g c width n p h root = main_closes (seen g.S.RowSeat.view c.args.tree.now) (seen g.S.RowSeat.view c.close.new.self) p c.args.exit h root c.close.ensures.closes c.close.ensures.closed

pub returns-clause-guests : goal.returns-clause-guests
returns-clause-guests g c =
    let m = c.requires.main in
    keeps_closes (seen g.S.RowSeat.view c.args.tree.now) (seen g.S.RowSeat.view c.close.new.self) 0 c.args.exit (root_open m.3 m.4) c.close.ensures.closes

pub returns-clause-rows : goal.returns-clause-rows
returns-clause-rows g c = close_pays (seen g.S.RowSeat.view c.args.tree.now) (seen g.S.RowSeat.view c.close.new.self) 0 c.args.exit c.requires.fits.sound.kept.holds.once c.close.ensures.closes

pub returns-clause-gives : goal.returns-clause-gives
returns-clause-gives g c = close_gives (seen g.S.RowSeat.view c.args.tree.now) (seen g.S.RowSeat.view c.close.new.self) c.args.exit c.close.ensures.closes

pub returns-clause-called : goal.returns-clause-called
returns-clause-called g c =
    let m = c.requires.main in
    closed (seen g.S.RowSeat.view c.args.tree.now) (seen g.S.RowSeat.view c.close.new.self) 0 c.args.exit none (root_open m.3 m.4) c.close.ensures.closes
