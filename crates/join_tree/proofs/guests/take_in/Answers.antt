use Rattle.scope_tree.specs.Trees.{seen}
use Rattle.join_tree.proofs.Children.{joined_room}
use Rattle.join_tree.proofs.Outs.{outs_take_in}
use Rattle.join_tree.proofs.Passing.{can_take_in, main_takes_in}
use Rattle.join_tree.proofs.Given.{join_gives}
use Rattle.join_tree.proofs.guests.take_in.Goals as goal

pub join-requires-clause-can : goal.join-requires-clause-can
join-requires-clause-can g c = let m = c.requires.main in can_take_in (seen g.S.RowSeat.view c.args.tree.now) m.4 (g.S.RowSeat.view c.args.seat) m.2 m.3 m.5 m.6 m.7 m.8 c.requires.rest

pub returns-clause-main : goal.returns-clause-main
returns-clause-main g c width n p k y h o visit is =
    let b = seen g.S.RowSeat.view c.args.tree.now in
    let v = g.S.RowSeat.view c.args.seat in
    let e = c.join.ensures in
    main_takes_in b (seen g.S.RowSeat.view c.join.new.self) y v p k h o (can_take_in b y v p k h o visit is c.requires.rest) e.apart e.seen e.scopes visit is

pub returns-clause-out : goal.returns-clause-out
returns-clause-out g c ms k gs y o visit is =
    let m = c.requires.main in
    let b = seen g.S.RowSeat.view c.args.tree.now in
    let v = g.S.RowSeat.view c.args.seat in
    let e = c.join.ensures in
    outs_take_in b (seen g.S.RowSeat.view c.join.new.self) y v ms k gs (can_take_in b m.4 v m.2 m.3 m.5 m.6 m.7 m.8 c.requires.rest) e.apart e.seen visit is o

pub returns-clause-room : goal.returns-clause-room
returns-clause-room g c = joined_room (seen g.S.RowSeat.view c.args.tree.now) (seen g.S.RowSeat.view c.join.new.self) (g.S.RowSeat.view c.args.seat) c.join.ensures.apart c.join.ensures.seen

pub returns-clause-gives : goal.returns-clause-gives
returns-clause-gives g c = join_gives (seen g.S.RowSeat.view c.args.tree.now) (seen g.S.RowSeat.view c.join.new.self) (g.S.RowSeat.view c.args.seat) c.join.ensures.apart c.join.ensures.seen
