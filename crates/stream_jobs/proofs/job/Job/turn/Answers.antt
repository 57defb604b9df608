-- What waits is sent, or what a look brings.
use Rattle.std.proofs.Common.{refl, ◌∙◌, ap}
use Rattle.pull_turns.specs.Piping.{standing}
use Rattle.stream_jobs.specs.Jobs.{seen_job}
use Rattle.stream_jobs.proofs.Working.{job_sends, moves_board, runs_still}
use Rattle.stream_jobs.proofs.job.Job.turn.Goals as goal

pub advance-requires-clause-runs : goal.advance-requires-clause-runs
advance-requires-clause-runs g c = runs_still _ (seen_job g.S.RowSeat.view g.F.PipeState.values c.args.self.now) refl c.requires.over c.in-None.is

pub returns-in-Some-clause-job : goal.returns-in-Some-clause-job
returns-in-Some-clause-job g c w h =
    let o = c.send.ensures in
    job_sends g.S.RowSeat.view g.F.PipeState.values g.V.Device.told (standing g.F.Feed.stands g.F.Feed.comes) w c.args.self.now c.send.new.self h o.stage o.number o.only.board o.only.says o.same.stream o.waits o.full

pub returns-in-Some-clause-fits : goal.returns-in-Some-clause-fits
returns-in-Some-clause-fits g c = let f = c.requires.fits in (f.0, c.send.ensures.stage ∙ f.1, f.2)

pub returns-in-None-clause-job : goal.returns-in-None-clause-job
returns-in-None-clause-job g c w h =
    let o = c.send-in-None.ensures in
    job_sends g.S.RowSeat.view g.F.PipeState.values g.V.Device.told (standing g.F.Feed.stands g.F.Feed.comes) w c.advance.new.self c.send-in-None.new.self (c.advance.ensures.job w h) o.stage o.number o.only.board o.only.says o.same.stream o.waits o.full

pub returns-in-None-clause-same : goal.returns-in-None-clause-same
returns-in-None-clause-same g c =
    let a = c.advance.ensures.advances in
    let o = c.send-in-None.ensures.same in
    let e = c.advance.ensures.sender in
    record {
      stream = o.stream ∙ ap (λ x. x.stream) e;
      hub = o.hub ∙ ap (λ x. x.hub) e;
      board = o.board ∙ moves_board _ _ _ a.0 _ _ _ _ a.2.moves;
    }

pub returns-in-None-clause-fits : goal.returns-in-None-clause-fits
returns-in-None-clause-fits g c = let f = c.advance.ensures.fits in (f.0, c.send-in-None.ensures.stage ∙ f.1, f.2)
