use Rattle.seat_bench.proofs.Rowing.{can_end, ends_on}
use Rattle.seat_bench.proofs.rows.end_row.Goals as goal

pub shut_row-requires-clause-can : goal.shut_row-requires-clause-can
shut_row-requires-clause-can g c = let i = c.requires.open in can_end (g.S.RowSeat.view c.args.seat.now) c.args.row i.0 i.1 i.2 0

pub returns-clause-idle : goal.returns-clause-idle
returns-clause-idle g c = λ to lt i. ends_on (g.S.RowSeat.view c.args.seat.now) c.args.row to lt i (g.S.RowSeat.view c.shut_row.new.seat) c.shut_row.ensures.shuts
