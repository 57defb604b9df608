use Rattle.pull_turns.specs.Piping.{standing}
use Rattle.stream_workers.proofs.Returning.{Continues}
use Rattle.stream_workers.proofs.away.run_away.Given as goal

-- it was taken further
abbrev pub invariant-turns : goal.invariant-turns
invariant-turns g l = Continues g.S.RowSeat.view g.F.PipeState.values g.V.Device.told (standing g.F.Feed.stands g.F.Feed.comes) g.S.RowSeat.fits l.initial.job l.initial.desk l.job l.desk
