use Rattle.std.proofs.Common.{ap, arith}
use Rattle.row_seat.specs.declared.view.View.{View}
use Rattle.scope_tree.specs.Trees.{seen}
use Rattle.join_tree.proofs.Children.{keeps_opens, main_opens, open_pays}
use Rattle.join_tree.proofs.Growing.{root_open}
use Rattle.join_tree.proofs.Given.{open_gives}
use Rattle.join_tree.proofs.outer.open_child.Goals as goal

pub open-requires-clause-root : goal.open-requires-clause-root
open-requires-clause-root g c = let m = c.requires.main in (root_open m.3 m.4).1

pub returns-clause-main : goal.returns-clause-main
returns-clause-main g c width n p h root = main_opens (seen g.S.RowSeat.view c.args.tree.now) (seen g.S.RowSeat.view c.open.new.self) p c.open.result h root c.requires.room c.open.ensures.opens c.open.ensures.scopes

pub returns-clause-child : goal.returns-clause-child
returns-clause-child g c = ((let n = c.open.ensures.opens.number in omega (n, arith)), c.open.ensures.child)

pub returns-clause-guests : goal.returns-clause-guests
returns-clause-guests g c = let m = c.requires.main in keeps_opens (seen g.S.RowSeat.view c.args.tree.now) (seen g.S.RowSeat.view c.open.new.self) m.2 c.open.result m.3 m.4 c.requires.room c.open.ensures.opens

pub returns-clause-rows : goal.returns-clause-rows
returns-clause-rows g c = open_pays (seen g.S.RowSeat.view c.args.tree.now) (seen g.S.RowSeat.view c.open.new.self) c.open.result c.open.ensures.opens

pub returns-clause-events : goal.returns-clause-events
returns-clause-events g c = let e = c.open.ensures in let s = ap (λ (v : View g.row.S-Pay.Denot). v.spare) e.opens.seat in let f = c.requires.free in omega (e.owed, s, f, arith)

pub returns-clause-gives : goal.returns-clause-gives
returns-clause-gives g c = let m = c.requires.main in open_gives (seen g.S.RowSeat.view c.args.tree.now) (seen g.S.RowSeat.view c.open.new.self) c.open.result (root_open m.3 m.4) c.open.ensures.opens
