-- Each turn takes the job further, and behind them it fits each desk that it fitted.
use Rattle.pull_turns.specs.Piping.{standing}
use Rattle.stream_workers.proofs.Returning.{comes_back, further}
use Rattle.stream_workers.proofs.away.run_away.Goals as goal

pub turn-requires-clause-job : goal.turn-requires-clause-job
turn-requires-clause-job g c = let j = c.requires.ready.job in (j.0, c.turns.invariant.job j.0 j.1)

pub turns-preserved-in-Blocked : goal.turns-preserved-in-Blocked
turns-preserved-in-Blocked g c =
    let e = c.turn.ensures in
    further g.S.RowSeat.view g.F.PipeState.values g.V.Device.told (standing g.F.Feed.stands g.F.Feed.comes) g.S.RowSeat.fits c.args.job c.args.desk c.turns.job c.turns.desk c.turn.new.self c.turn.new.desk c.turns.invariant e.job e.same e.fits e.others

pub turns-preserved : goal.turns-preserved
turns-preserved g c =
    let e = c.turn.ensures in
    further g.S.RowSeat.view g.F.PipeState.values g.V.Device.told (standing g.F.Feed.stands g.F.Feed.comes) g.S.RowSeat.fits c.args.job c.args.desk c.turns.job c.turns.desk c.turn.new.self c.turn.new.desk c.turns.invariant e.job e.same e.fits e.others

pub returns-then-is_over-clause-back : goal.returns-then-is_over-clause-back
returns-then-is_over-clause-back g c =
    let r = c.requires.ready in
    let i = c.turns.invariant in
    comes_back g.S.RowSeat.view g.F.PipeState.values g.V.Device.told (standing g.F.Feed.stands g.F.Feed.comes) g.S.RowSeat.fits g.met.S.SharesDesk.agree g.met.S.SharesDesk.stays r.job.0 c.args.job c.turns.job c.args.job.sender.stream c.args.desk c.turns.desk r.job.1 r.fits_desk i.others i.job i.fits_desk i.same
