-- Each turn keeps what was kept before.
use Rattle.std.proofs.Common.{◌∙◌, subst}
use Rattle.res_ledger.specs.declared.event.StreamNo.TheVariants.{Inner}
use Rattle.row_seat.specs.Views.{OthersFit}
use Rattle.stream_jobs.proofs.job.Job.finish.Goals as goal

pub turn-requires-clause-job : goal.turn-requires-clause-job
turn-requires-clause-job g c = (c.requires.job.0, c.turns.invariant.job c.requires.job.0 c.requires.job.1)

pub turns-preserved : goal.turns-preserved
turns-preserved g c =
    let i = c.turns.invariant in
    let s = c.turn.ensures.same in
    let own = subst (λ k. OthersFit g.S.RowSeat.view g.S.RowSeat.fits (Inner k) c.turns.desk c.turn.new.desk) i.same.stream c.turn.ensures.others in
    record {
      job = λ w h. c.turn.ensures.job w (i.job w h);
      same = record { stream = s.stream ∙ i.same.stream; hub = s.hub ∙ i.same.hub; board = s.board ∙ i.same.board };
      fits = c.turn.ensures.fits;
      others = λ o n f. own o n (i.others o n f);
    }
