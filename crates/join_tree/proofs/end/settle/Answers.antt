use Rattle.std.proofs.Common.{sym, subst}
use Rattle.row_seat.specs.Views.{CanFinish, IsLedgerOf}
use Rattle.scope_tree.specs.Trees.{seen}
use Rattle.tree_laws.specs.Visits.{HasNothingOpen}
use Rattle.join_tree.proofs.Settling.{main_may_finish, main_settles}
use Rattle.join_tree.proofs.end.settle.Goals as goal

pub finish-requires-clause-can : goal.finish-requires-clause-can
finish-requires-clause-can g c =
    let m = c.requires.main in
    let e = c.end-seat.ensures in
    subst (λ v. CanFinish v) (sym e.seat) (main_may_finish m.0 m.1 (seen g.S.RowSeat.view c.args.tree) m.2 m.4 m.6 c.requires.out (subst (λ v. HasNothingOpen v) e.seat e.rest))

pub returns-clause-settles : goal.returns-clause-settles
returns-clause-settles g c width n p x h root = main_settles width n (seen g.S.RowSeat.view c.args.tree) p x c.finish.result h root c.requires.out (subst (λ v. IsLedgerOf v c.finish.result) c.end-seat.ensures.seat c.finish.ensures)
