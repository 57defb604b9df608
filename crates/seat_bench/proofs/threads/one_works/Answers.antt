use Rattle.seat_bench.proofs.Rowing.{at_start}
use Rattle.seat_bench.proofs.threads.one_works.Goals as goal

pub live_alone-requires-clause-idle : goal.live_alone-requires-clause-idle
live_alone-requires-clause-idle c = at_start _ _ _ c.in_ok-seat.ensures.0
