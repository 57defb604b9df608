-- Seats that work in threads of their own.
use Rattle.std.specs.Prelude.{◌≤◌}
use Rattle.row_shared.specs.Seats.{SharedFits, shown}
use Rattle.seat_bench.specs.Rows.{IsIdle}
use Rattle.seat_bench.specs.declared.threads.Worker.{Worker}

-- the seat and the handle come from one maker, and none of the rows has begun
abbrev pub IsReady : Worker → Type 0
IsReady w = SharedFits w.seat w.desk × IsIdle (shown w.seat) w.rows.from w.rows.to × (w.rows.from ≤ w.rows.to)
