use Rattle.std.proofs.Common.{arith}
use Rattle.scope_tree.specs.Trees.{seen}
use Rattle.join_tree.proofs.Outs.{outs_split}
use Rattle.join_tree.proofs.Passing.{main_can_split, main_makes_seat, main_splits}
use Rattle.join_tree.proofs.Given.{split_gives}
use Rattle.join_tree.proofs.guests.split_off.Goals as goal

pub split-requires-clause-can : goal.split-requires-clause-can
split-requires-clause-can g c =
    let m = c.requires.main in
    let free = c.requires.free in
    main_can_split (seen g.S.RowSeat.view c.args.tree.now) m.2 m.4 c.args.stream c.args.rows.from c.args.rows.to c.args.events m.3 m.5 m.6 c.requires.rows c.requires.fits.sound.kept.rests.empty (omega (free, arith)) c.requires.splits

pub returns-clause-guest : goal.returns-clause-guest
returns-clause-guest g c width n p T us h is =
    let e = c.in_ok-seat.ensures in
    main_makes_seat (seen g.S.RowSeat.view c.args.tree.now) (g.S.RowSeat.view c.in_ok-seat.seat) p us c.args.stream c.args.rows.from c.args.rows.to c.args.events T h is e.ok.1 (e.start c.requires.some)

pub returns-clause-main : goal.returns-clause-main
returns-clause-main g c width n p T us h is ready =
    let b = seen g.S.RowSeat.view c.args.tree.now in
    main_splits b (seen g.S.RowSeat.view c.split.new.self) p us c.args.stream T c.args.rows.from c.args.rows.to c.args.events h is ready (main_can_split b p us c.args.stream c.args.rows.from c.args.rows.to c.args.events T h is c.requires.rows c.requires.fits.sound.kept.rests.empty (let free = c.requires.free in omega (free, arith)) c.requires.splits) c.in_ok-seat.ensures.ok.0

pub returns-clause-out : goal.returns-clause-out
returns-clause-out g c width n p T us gs h is o =
    let b = seen g.S.RowSeat.view c.args.tree.now in
    outs_split b (seen g.S.RowSeat.view c.split.new.self) p us gs c.args.stream T c.args.rows.from c.args.rows.to c.args.events h is (main_can_split b p us c.args.stream c.args.rows.from c.args.rows.to c.args.events T h is c.requires.rows c.requires.fits.sound.kept.rests.empty (let free = c.requires.free in omega (free, arith)) c.requires.splits) c.in_ok-seat.ensures.ok.0 o

pub returns-clause-gives : goal.returns-clause-gives
returns-clause-gives g c = split_gives (seen g.S.RowSeat.view c.args.tree.now) (seen g.S.RowSeat.view c.split.new.self) c.args.stream c.args.rows.from c.args.rows.to c.args.events c.in_ok-seat.ensures.ok.0
