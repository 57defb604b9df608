use Rattle.seat_bench.specs.Rows.{IsIdle, IsMain}
use Rattle.seat_bench.proofs.rows.live_all.Given as goal

abbrev pub invariant-loop-row : goal.invariant-loop-row
invariant-loop-row g l = g.S.RowSeat.fits l.seat l.desk × IsIdle (g.S.RowSeat.view l.seat) l.row l.fn.count × IsMain (g.S.RowSeat.view l.seat)
