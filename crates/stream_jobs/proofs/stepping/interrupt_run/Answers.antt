-- The interruption names a front that the seat has seen.
use Rattle.stream_jobs.proofs.Placing.{names_by}
use Rattle.stream_jobs.proofs.stepping.interrupt_run.Goals as goal

pub returns-in-Fault-clause-named : goal.returns-in-Fault-clause-named
returns-in-Fault-clause-named g c none = let i = c.interrupt in names_by (g.S.RowSeat.view c.args.seat.now).events c.args.at.now i.new.at i.result none i.ensures.behind i.ensures.stops

pub returns-in-Memory-clause-named : goal.returns-in-Memory-clause-named
returns-in-Memory-clause-named g c none = let i = c.interrupt-in-Memory in names_by (g.S.RowSeat.view c.args.seat.now).events c.args.at.now i.new.at i.result none i.ensures.behind i.ensures.stops
