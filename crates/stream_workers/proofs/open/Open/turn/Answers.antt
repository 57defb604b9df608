-- The job that is here is one that began as it is seen.
use Rattle.std.proofs.Common.{◌+◌, ◌<◌, ◌^◌, subst, sym, ◌∙◌}
use Rattle.pull_turns.specs.Piping.{standing}
use Rattle.res_ledger.specs.declared.event.StreamNo.TheVariants.{Inner}
use Rattle.row_seat.specs.Views.{OthersFit}
use Rattle.stream_jobs.specs.Jobs.{MaySendAll}
use Rattle.stream_workers.specs.Returns.{ComesBack}
use Rattle.stream_workers.specs.Stands.{StandsAt}
use Rattle.stream_workers.proofs.Returning.{back_further, comes_back, fits_last_too}
use Rattle.stream_workers.proofs.open.Open.turn.Goals as goal

pub step-job-requires-clause-job : goal.step-job-requires-clause-job
step-job-requires-clause-job g c =
    let e = subst (λ j. ComesBack g.S.RowSeat.view g.F.PipeState.values g.V.Device.told (standing g.F.Feed.stands g.F.Feed.comes) g.S.RowSeat.fits j c.in-Here.job) c.self.view_is (subst (λ a. StandsAt g.S.RowSeat.view g.F.PipeState.values g.V.Device.told (standing g.F.Feed.stands g.F.Feed.comes) g.S.RowSeat.fits c.self.inside.first.value a) c.in-Here.is c.self.invariant.stands) in
    let w = c.requires.job in
    (w.0, e.job w.0 w.1)

pub step-job-requires-clause-fits : goal.step-job-requires-clause-fits
step-job-requires-clause-fits g c =
    let e = subst (λ j. ComesBack g.S.RowSeat.view g.F.PipeState.values g.V.Device.told (standing g.F.Feed.stands g.F.Feed.comes) g.S.RowSeat.fits j c.in-Here.job) c.self.view_is (subst (λ a. StandsAt g.S.RowSeat.view g.F.PipeState.values g.V.Device.told (standing g.F.Feed.stands g.F.Feed.comes) g.S.RowSeat.fits c.self.inside.first.value a) c.in-Here.is c.self.invariant.stands) in
    e.fits_desk c.args.desk.now c.requires.fits

pub step-job-requires-clause-at : goal.step-job-requires-clause-at
step-job-requires-clause-at g c =
    let e = subst (λ j. ComesBack g.S.RowSeat.view g.F.PipeState.values g.V.Device.told (standing g.F.Feed.stands g.F.Feed.comes) g.S.RowSeat.fits j c.in-Here.job) c.self.view_is (subst (λ a. StandsAt g.S.RowSeat.view g.F.PipeState.values g.V.Device.told (standing g.F.Feed.stands g.F.Feed.comes) g.S.RowSeat.fits c.self.inside.first.value a) c.in-Here.is c.self.invariant.stands) in
    let a = c.requires.at in
    record {
      hub_is = e.same.hub ∙ a.hub_is;
      board_is = e.same.board ∙ a.board_is;
      context = subst (λ k. 1 + k < c.args.board.now.contexts) (sym e.same.stream) a.context;
      number = subst (λ k. 1 + k < 2 ^ 32) (sym e.same.stream) a.number;
    }

pub step-job-requires-clause-may : goal.step-job-requires-clause-may
step-job-requires-clause-may g c =
    let e = subst (λ j. ComesBack g.S.RowSeat.view g.F.PipeState.values g.V.Device.told (standing g.F.Feed.stands g.F.Feed.comes) g.S.RowSeat.fits j c.in-Here.job) c.self.view_is (subst (λ a. StandsAt g.S.RowSeat.view g.F.PipeState.values g.V.Device.told (standing g.F.Feed.stands g.F.Feed.comes) g.S.RowSeat.fits c.self.inside.first.value a) c.in-Here.is c.self.invariant.stands) in
    subst (λ k. MaySendAll g.A.May.may c.args.hub.now.capacity k) (sym e.same.stream) c.requires.may

pub kept-requires-clause-number : goal.kept-requires-clause-number
kept-requires-clause-number g c = c.self.invariant.number

pub kept-requires-clause-back : goal.kept-requires-clause-back
kept-requires-clause-back g c =
    let e = subst (λ j. ComesBack g.S.RowSeat.view g.F.PipeState.values g.V.Device.told (standing g.F.Feed.stands g.F.Feed.comes) g.S.RowSeat.fits j c.in-Here.job) c.self.view_is (subst (λ a. StandsAt g.S.RowSeat.view g.F.PipeState.values g.V.Device.told (standing g.F.Feed.stands g.F.Feed.comes) g.S.RowSeat.fits c.self.inside.first.value a) c.in-Here.is c.self.invariant.stands) in
    let w = c.requires.job in
    let s = c.step-job.ensures in
    let h = e.job w.0 w.1 in
    let f = e.fits_desk c.args.desk.now c.requires.fits in
    let more = comes_back g.S.RowSeat.view g.F.PipeState.values g.V.Device.told (standing g.F.Feed.stands g.F.Feed.comes) g.S.RowSeat.fits g.met.S.SharesDesk.agree g.met.S.SharesDesk.stays w.0 c.in-Here.job c.step-job.result c.in-Here.job.sender.stream c.args.desk.now c.step-job.new.desk h f s.others s.job s.fits s.same in
    subst (λ j. ComesBack g.S.RowSeat.view g.F.PipeState.values g.V.Device.told (standing g.F.Feed.stands g.F.Feed.comes) g.S.RowSeat.fits j c.step-job.result) (sym c.self.view_is) (back_further g.S.RowSeat.view g.F.PipeState.values g.V.Device.told (standing g.F.Feed.stands g.F.Feed.comes) g.S.RowSeat.fits c.args.self c.in-Here.job c.step-job.result e more)

pub returns-in-Here-clause-same : goal.returns-in-Here-clause-same
returns-in-Here-clause-same g c = c.kept.ensures ∙ c.self.view_is

pub returns-in-Here-clause-fits : goal.returns-in-Here-clause-fits
returns-in-Here-clause-fits g c =
    let e = subst (λ j. ComesBack g.S.RowSeat.view g.F.PipeState.values g.V.Device.told (standing g.F.Feed.stands g.F.Feed.comes) g.S.RowSeat.fits j c.in-Here.job) c.self.view_is (subst (λ a. StandsAt g.S.RowSeat.view g.F.PipeState.values g.V.Device.told (standing g.F.Feed.stands g.F.Feed.comes) g.S.RowSeat.fits c.self.inside.first.value a) c.in-Here.is c.self.invariant.stands) in
    let w = c.requires.job in
    let s = c.step-job.ensures in
    let h = e.job w.0 w.1 in
    let f = e.fits_desk c.args.desk.now c.requires.fits in
    fits_last_too g.S.RowSeat.view g.F.PipeState.values g.V.Device.told (standing g.F.Feed.stands g.F.Feed.comes) g.S.RowSeat.fits g.met.S.SharesDesk.agree g.met.S.SharesDesk.stays w.0 c.in-Here.job c.step-job.result c.in-Here.job.sender.stream c.args.desk.now c.step-job.new.desk h f s.others s.job s.fits w.0 c.args.self w.1 c.requires.fits

pub returns-in-Here-clause-others : goal.returns-in-Here-clause-others
returns-in-Here-clause-others g c =
    let e = subst (λ j. ComesBack g.S.RowSeat.view g.F.PipeState.values g.V.Device.told (standing g.F.Feed.stands g.F.Feed.comes) g.S.RowSeat.fits j c.in-Here.job) c.self.view_is (subst (λ a. StandsAt g.S.RowSeat.view g.F.PipeState.values g.V.Device.told (standing g.F.Feed.stands g.F.Feed.comes) g.S.RowSeat.fits c.self.inside.first.value a) c.in-Here.is c.self.invariant.stands) in
    subst (λ k. OthersFit g.S.RowSeat.view g.S.RowSeat.fits (Inner k) c.args.desk.now c.step-job.new.desk) e.same.stream c.step-job.ensures.others

pub returns-in-Away-clause-same : goal.returns-in-Away-clause-same
returns-in-Away-clause-same g c = c.self.view_is
