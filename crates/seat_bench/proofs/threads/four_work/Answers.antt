use Rattle.std.proofs.Common.{◌*◌, arith}
use Rattle.seat_bench.proofs.Rowing.{host_start}
use Rattle.seat_bench.proofs.threads.four_work.Goals as goal

pub hire-requires-clause-host : goal.hire-requires-clause-host
hire-requires-clause-host g c = let n = c.args.count in (n, 7 * n, 3, host_start _ n (7 * n) 4 c.in_ok-seat.ensures.0, omega arith, omega arith)

pub hire-requires-2-clause-host : goal.hire-requires-2-clause-host
hire-requires-2-clause-host g c = let n = c.args.count in (n, _, 2, c.in_ok-one.ensures.host n (7 * n) 3 (host_start _ n (7 * n) 4 c.in_ok-seat.ensures.0) (omega arith) (omega arith), omega arith, omega arith)

pub hire-requires-3-clause-host : goal.hire-requires-3-clause-host
hire-requires-3-clause-host g c = let n = c.args.count in (n, _, 1, c.in_ok-two.ensures.host n _ 2 (c.in_ok-one.ensures.host n (7 * n) 3 (host_start _ n (7 * n) 4 c.in_ok-seat.ensures.0) (omega arith) (omega arith)) (omega arith) (omega arith), omega arith, omega arith)

pub hire-requires-4-clause-host : goal.hire-requires-4-clause-host
hire-requires-4-clause-host g c = let n = c.args.count in (n, _, 0, c.in_ok-three.ensures.host n _ 1 (c.in_ok-two.ensures.host n _ 2 (c.in_ok-one.ensures.host n (7 * n) 3 (host_start _ n (7 * n) 4 c.in_ok-seat.ensures.0) (omega arith) (omega arith)) (omega arith) (omega arith)) (omega arith) (omega arith), omega arith, omega arith)
