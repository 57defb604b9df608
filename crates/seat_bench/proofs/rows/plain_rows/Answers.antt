use Rattle.seat_bench.proofs.Rowing.{at_start, host_start}
use Rattle.seat_bench.proofs.rows.plain_rows.Goals as goal

pub live_all-requires-clause-idle : goal.live_all-requires-clause-idle
live_all-requires-clause-idle c = at_start _ _ _ c.in_ok-seat.ensures.0

pub live_all-requires-clause-main : goal.live_all-requires-clause-main
live_all-requires-clause-main c = (host_start _ _ _ _ c.in_ok-seat.ensures.0).is
