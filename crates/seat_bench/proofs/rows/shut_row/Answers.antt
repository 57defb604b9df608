use Rattle.seat_bench.proofs.Rowing.{can_shut, main_shuts, shuts_on}
use Rattle.seat_bench.proofs.rows.shut_row.Goals as goal

pub shut_row-requires-clause-can : goal.shut_row-requires-clause-can
shut_row-requires-clause-can g c = let i = c.requires.lent in can_shut (g.S.RowSeat.view c.args.seat.now) c.args.row i.0 i.1 i.2 0

pub returns-clause-shut : goal.returns-clause-shut
returns-clause-shut g c = λ to lt i. shuts_on (g.S.RowSeat.view c.args.seat.now) c.args.row to lt i (g.S.RowSeat.view c.shut_row.new.seat) c.shut_row.ensures.shuts

pub returns-clause-main : goal.returns-clause-main
returns-clause-main g c = main_shuts (g.S.RowSeat.view c.args.seat.now) c.args.row (g.S.RowSeat.view c.shut_row.new.seat) c.shut_row.ensures.shuts
