-- The stream has left, the run is interrupted, and its end waits.
use Rattle.std.proofs.Common.{[], ◌++◌, ◌∷◌, Some, refl, sym, ◌∙◌, ap, subst}
use Rattle.chunk_core.specs.declared.code.How.TheVariants as how
use Rattle.pull_turns.specs.Piping.{standing}
use Rattle.res_ledger.specs.declared.event.StreamNo.TheVariants.{Inner}
use Rattle.row_seat.specs.Views.{OthersFit}
use Rattle.row_seat.specs.declared.view.View.{View}
use Rattle.scope_tree.specs.Trees.{seen}
use Rattle.stream_jobs.specs.Learned.{HasLearned}
use Rattle.stream_jobs.specs.Messages.{IsFullMessage, end_message, held}
use Rattle.stream_jobs.specs.Places.{HasPlaces}
use Rattle.stream_jobs.specs.Running.{IsEndedJob}
use Rattle.stream_jobs.specs.Unmade.{IsUnmade}
use Rattle.stream_jobs.proofs.Learning.{end_learns, learns_nothing}
use Rattle.stream_jobs.proofs.Placing.{job_by, places_by}
use Rattle.stream_jobs.proofs.job.Job.unmade.Goals as goal

pub leave_unmade-left-requires-clause-unmade : goal.leave_unmade-left-requires-clause-unmade
leave_unmade-left-requires-clause-unmade g c =
    let u = c.requires.unmade in
    (c.args.seat, u.0, subst (λ k. IsUnmade g.V.Device.told k c.args.lease.rows.items c.args.seat (seen g.S.RowSeat.view c.args.tree) c.args.devices u.0) (sym c.requires.lease) u.1)

pub returns-clause-job : goal.returns-clause-job
returns-clause-job g c w u =
    let told = g.V.Device.told in
    let P = standing g.F.Feed.stands g.F.Feed.comes in
    let view = g.S.RowSeat.view in
    let left = c.leave_unmade-left.result in
    let k = c.args.stream in
    let seat = c.args.seat in
    let last = c.interrupt_run.new.at in
    let message = c.end_of.result in
    let own = subst (λ j. IsUnmade told j c.args.lease.rows.items seat (seen view c.args.tree) c.args.devices w) (sym c.requires.lease) u in
    let has = c.leave_unmade-left.ensures.left seat w own in
    let said = ap (λ j. end_message j how.Memory ∷ []) c.requires.lease ∙ (ap (λ m. m ∷ []) (sym c.end_of.ensures) ∙ ap (λ xs. xs ++ message ∷ []) (sym c.requires.sender.1)) in
    let learned = end_learns k seat seat last (learns_nothing k seat c.requires.seat.0 c.requires.seat.1) how.Memory c.interrupt_run.ensures.stops (λ e. cc) in
    record {
      number = sym u.stream;
      sender = c.requires.sender.0 ∙ sym u.stream;
      waits = ap (λ m. m.stream) c.end_of.ensures ∙ sym u.stream;
      full = subst IsFullMessage (sym c.end_of.ensures) tt;
      stage = _;
      stage_is = refl;
      stands = subst (λ (v : View _). IsEndedJob told P w v left.shelf left.unopened left.how (c.args.sender.sent ++ held (Some message))) (sym c.interrupt_run.ensures.view) (subst (λ xs. IsEndedJob told P w (view left.seat) left.shelf left.unopened left.how xs) said has);
      learned = subst (λ h. HasLearned w.stream w.board last (Some h)) (sym c.leave_unmade-left.ensures.how) (subst (λ j. HasLearned j w.board last (Some how.Memory)) (sym u.stream) (subst (λ s. HasLearned k s last (Some how.Memory)) (sym u.board) learned));
      places = subst (λ h. HasPlaces w.stream (view c.interrupt_run.new.seat) last.view h) (sym c.leave_unmade-left.ensures.how)
          (places_by w.stream (view left.seat) (view c.interrupt_run.new.seat) seat last how.Memory c.interrupt_run.ensures.view (c.interrupt_run.ensures.named c.requires.seat.0) c.interrupt_run.ensures.stops (λ e. cc));
    }

pub returns-clause-fits : goal.returns-clause-fits
returns-clause-fits g c = (_, refl, c.interrupt_run.ensures.fits)

pub returns-clause-others : goal.returns-clause-others
returns-clause-others g c =
    let view = g.S.RowSeat.view in
    let fits = g.S.RowSeat.fits in
    let told = g.V.Device.told in
    let u = c.requires.unmade in
    let own = subst (λ j. IsUnmade told j c.args.lease.rows.items c.args.seat (seen view c.args.tree) c.args.devices u.0) (sym c.requires.lease) u.1 in
    let has = c.leave_unmade-left.ensures.left c.args.seat u.0 own in
    let first = subst (λ k. OthersFit view fits (Inner k) c.args.desk.now c.leave_unmade-left.new.desk) c.requires.lease c.leave_unmade-left.ensures.others in
    let by = job_by told (standing g.F.Feed.stands g.F.Feed.comes) u.0 (view c.leave_unmade-left.result.seat) _ _ _ _ has ∙ ap Inner u.1.stream in
    let second = subst (λ k. OthersFit view fits k c.leave_unmade-left.new.desk c.interrupt_run.new.desk) by c.interrupt_run.ensures.others in
    λ o n f. second o n (first o n f)
