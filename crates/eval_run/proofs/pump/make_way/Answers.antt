-- As many were out as there are hands, or fewer.
use Rattle.std.proofs.Common.{arith}
use Rattle.eval_run.proofs.Pumped.{way_made}
use Rattle.eval_run.proofs.pump.make_way.Goals as goal

pub print_next-requires : goal.print_next-requires
print_next-requires g c = let p = c.requires.pumping in let n = c.out.ensures p.1 p.2 p.3.crew in let some = c.requires.some in record { pumping = (p.0, p.1, p.2, p.3, omega (arith, n, some), p.5) }

pub returns-then-out-jobs : goal.returns-then-out-jobs
returns-then-out-jobs g c first ds ws p most = way_made g.W.Work.result_of c.args.place.now.work.now c.args.place.now.lanes.now first ds ws c.args.crew.now c.print_next.new.crew (g.K.Sink.told c.args.out.now) (g.K.Sink.told c.print_next.new.out) c.args.jobs c.print_next.result most (c.print_next.ensures.taken first ds ws p)

pub returns-else-out-jobs : goal.returns-else-out-jobs
returns-else-out-jobs g c first ds ws p most = let n = c.out.ensures ds ws p.crew in (ws, p, omega (arith, n, most))
