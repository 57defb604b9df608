-- The stepper goes on, or the stream leaves.
use Rattle.std.proofs.Common.{◌≡◌, ◌++◌, [], ◌∷◌, None, Some, ap, sym, subst, ◌∙◌}
use Rattle.std.specs.Option.{option_or}
use Rattle.chunk_core.specs.declared.code.How.TheVariants as how
use Rattle.interrupt_ctx.specs.declared.why.Stop.{Stop}
use Rattle.pull_turns.specs.Piping.{standing}
use Rattle.row_seat.specs.Views.{OthersFit}
use Rattle.row_seat.specs.declared.view.View.{View}
use Rattle.pull_stepper.specs.Steppers.{stepping}
use Rattle.res_ledger.specs.declared.event.StreamNo.TheVariants.{Inner}
use Rattle.stream_jobs.specs.Leaving.{CanLeave}
use Rattle.stream_jobs.specs.Learned.{HasLearned}
use Rattle.stream_jobs.specs.Messages.{end_message, held}
use Rattle.stream_jobs.specs.Places.{CloseBehind, HasPlaces}
use Rattle.stream_jobs.specs.Running.{IsEndedJob}
use Rattle.stream_jobs.proofs.Advancing.{left_so, obeyed_over, said_on, visiting_at}
use Rattle.stream_jobs.proofs.Learning.{FoundCode, HasSeen, end_learns, halted_for, load_full, look_finds, look_learns}
use Rattle.stream_jobs.proofs.Placing.{ended_by, left_behind, places_by}
use Rattle.stream_jobs.proofs.Runs.{obeyed_ends, obeyed_on, room_to_leave, same_end}
use Rattle.stream_jobs.proofs.running.Running.advance.Goals as goal

pub look_and_step-load-requires-clause-can : goal.look_and_step-load-requires-clause-can
look_and_step-load-requires-clause-can g c = c.requires.runs.2.given.can

pub leave-left-requires-clause-over : goal.leave-left-requires-clause-over
leave-left-requires-clause-over g c =
    let look = c.look_and_step-load in
    let last = look.new.seat.view.last in
    let a = stepping g.S.RowSeat.view g.F.PipeState.values c.args.self.stepper in
    let b = stepping g.S.RowSeat.view g.F.PipeState.values look.new.stepper in
    obeyed_over g.V.Device.told (standing g.F.Feed.stands g.F.Feed.comes) a b (option_or last.own last.root) look.result look.ensures.obeys c.in-Some.how (sym c.in-Some.ensures)

pub leave-left-requires-clause-visiting : goal.leave-left-requires-clause-visiting
leave-left-requires-clause-visiting g c =
    let look = c.look_and_step-load in
    let r = c.requires.runs.2 in
    let told = g.V.Device.told in
    let last = look.new.seat.view.last in
    let a = stepping g.S.RowSeat.view g.F.PipeState.values c.args.self.stepper in
    let b = stepping g.S.RowSeat.view g.F.PipeState.values look.new.stepper in
    let w = c.requires.runs.0 in
    let run = obeyed_ends told (standing g.F.Feed.stands g.F.Feed.comes) w a b r.loads r.given look.ensures.since (option_or last.own last.root) look.result look.ensures.obeys c.in-Some.how (sym c.in-Some.ensures) in
    (w.start.site, visiting_at told (standing g.F.Feed.stands g.F.Feed.comes) c.args.self.lease.0.stream c.args.self.lease.0.rows.items w b.site r.lease r.leased r.begun run.since)

pub leave-left-requires-clause-room : goal.leave-left-requires-clause-room
leave-left-requires-clause-room g c =
    let look = c.look_and_step-load in
    let r = c.requires.runs.2 in
    let told = g.V.Device.told in
    let P = standing g.F.Feed.stands g.F.Feed.comes in
    let last = look.new.seat.view.last in
    let a = stepping g.S.RowSeat.view g.F.PipeState.values c.args.self.stepper in
    let b = stepping g.S.RowSeat.view g.F.PipeState.values look.new.stepper in
    let w = c.requires.runs.0 in
    let run = obeyed_ends told P w a b r.loads r.given look.ensures.since (option_or last.own last.root) look.result look.ensures.obeys c.in-Some.how (sym c.in-Some.ensures) in
    subst (λ T. CanLeave told T b.site) (sym r.leased) (room_to_leave told P w b c.in-Some.how r.loads r.begun run)

pub returns-in-None-clause-stands : goal.returns-in-None-clause-stands
returns-in-None-clause-stands g c w said r =
    let look = c.look_and_step-load in
    let told = g.V.Device.told in
    let P = standing g.F.Feed.stands g.F.Feed.comes in
    let last = look.new.seat.view.last in
    let a = stepping g.S.RowSeat.view g.F.PipeState.values c.args.self.stepper in
    let b = stepping g.S.RowSeat.view g.F.PipeState.values look.new.stepper in
    let full = load_full P told a b (option_or last.own last.root) look.result look.ensures.obeys in
    let more = said_on told P c.args.self.stream w.stream r.loads r.texts look.result said (held c.message_of.result) r.stream r.texts_are r.said_is c.message_of.ensures full in
    record {
      stream = r.stream;
      lease = r.lease;
      leased = r.leased;
      begun = r.begun;
      loads = r.loads ++ held look.result;
      given = obeyed_on told P w a b r.loads r.given look.ensures.since (option_or last.own last.root) look.result look.ensures.obeys (sym c.in-None.ensures);
      texts = more.0;
      texts_are = more.1;
      said_is = more.2;
    }

pub returns-in-None-clause-learned : goal.returns-in-None-clause-learned
returns-in-None-clause-learned g c w said r l =
    let look = c.look_and_step-load in
    subst (λ k. HasLearned k w.board look.new.seat None) r.stream (look_learns c.args.self.stream w.board c.args.seat.now look.new.seat look.ensures.looks (subst (λ k. HasLearned k w.board c.args.seat.now None) (sym r.stream) l))

pub returns-in-None-clause-others : goal.returns-in-None-clause-others
returns-in-None-clause-others g c =
    let look = c.look_and_step-load in
    let r = c.requires.runs.2 in
    let by = r.given.since.alone.by ∙ (r.begun.guest.by ∙ sym (ap Inner r.stream)) in
    subst (λ k. OthersFit g.S.RowSeat.view g.S.RowSeat.fits k c.args.desk.now look.new.desk) by look.ensures.others

pub returns-in-Some-clause-stands : goal.returns-in-Some-clause-stands
returns-in-Some-clause-stands g c w said r =
    let look = c.look_and_step-load in
    let told = g.V.Device.told in
    let P = standing g.F.Feed.stands g.F.Feed.comes in
    let view = g.S.RowSeat.view in
    let last = look.new.seat.view.last in
    let a = stepping view g.F.PipeState.values c.args.self.stepper in
    let b = stepping view g.F.PipeState.values look.new.stepper in
    let l = c.args.self.lease.0 in
    let h = c.in-Some.how in
    let run = obeyed_ends told P w a b r.loads r.given look.ensures.since (option_or last.own last.root) look.result look.ensures.obeys h (sym c.in-Some.ensures) in
    let left = c.leave-left.result in
    subst (λ (v : View _). IsEndedJob told P w v left.shelf left.unopened left.how (said ++ c.end_of.result ∷ [])) (sym c.interrupt_run.ensures.view)
    (left_so told P w a b r.loads r.texts said l.stream l.rows.items h left.how (view left.seat) left.shelf left.unopened c.end_of.result r.begun r.texts_are r.said_is r.lease r.leased run (sym c.in-Some.ensures)
    (c.leave-left.ensures.leaves w.start.site (visiting_at told P l.stream l.rows.items w b.site r.lease r.leased r.begun run.since))
    (c.end_of.ensures ∙ ap (λ i. end_message i h) r.stream))

pub returns-in-Some-clause-learned : goal.returns-in-Some-clause-learned
returns-in-Some-clause-learned g c w said r l =
    let look = c.look_and_step-load in
    let told = g.V.Device.told in
    let P = standing g.F.Feed.stands g.F.Feed.comes in
    let k = c.args.self.stream in
    let old = c.args.seat.now in
    let looked = look.new.seat in
    let last = looked.view.last in
    let a = stepping g.S.RowSeat.view g.F.PipeState.values c.args.self.stepper in
    let b = stepping g.S.RowSeat.view g.F.PipeState.values look.new.stepper in
    let j = c.args.self.lease.0 in
    let h = c.in-Some.how in
    let found = option_or last.own last.root in
    let run = obeyed_ends told P w a b r.loads r.given look.ensures.since found look.result look.ensures.obeys h (sym c.in-Some.ensures) in
    let left = c.leave-left.ensures.leaves w.start.site (visiting_at told P j.stream j.rows.items w b.site r.lease r.leased r.begun run.since) in
    let after = look_learns k w.board old looked look.ensures.looks (subst (λ i. HasLearned i w.board old None) (sym r.stream) l) in
    let finds : h ≡ how.Halted → FoundCode k looked = λ e. let f = halted_for P told a b found look.result look.ensures.obeys (sym c.in-Some.ensures ∙ ap (λ x. Some x) e) in (f.0, look_finds k w.board old looked look.ensures.looks f.0 f.1) in
    subst (λ i. HasLearned i w.board c.interrupt_run.new.at (Some c.leave-left.result.how)) r.stream
    (subst (λ x. HasLearned k w.board c.interrupt_run.new.at (Some x)) (same_end b.how h c.leave-left.result.how (sym c.in-Some.ensures) left.ended.how) (end_learns k w.board looked c.interrupt_run.new.at after h c.interrupt_run.ensures.stops finds))

pub returns-in-Some-clause-places : goal.returns-in-Some-clause-places
returns-in-Some-clause-places g c w said r l =
    let look = c.look_and_step-load in
    let told = g.V.Device.told in
    let P = standing g.F.Feed.stands g.F.Feed.comes in
    let view = g.S.RowSeat.view in
    let k = c.args.self.stream in
    let old = c.args.seat.now in
    let looked = look.new.seat in
    let last = looked.view.last in
    let a = stepping view g.F.PipeState.values c.args.self.stepper in
    let b = stepping view g.F.PipeState.values look.new.stepper in
    let j = c.args.self.lease.0 in
    let h = c.in-Some.how in
    let found = option_or last.own last.root in
    let left = c.leave-left.result in
    let run = obeyed_ends told P w a b r.loads r.given look.ensures.since found look.result look.ensures.obeys h (sym c.in-Some.ensures) in
    let leaves = c.leave-left.ensures.leaves w.start.site (visiting_at told P j.stream j.rows.items w b.site r.lease r.leased r.begun run.since) in
    let after = look_learns k w.board old looked look.ensures.looks (subst (λ i. HasLearned i w.board old None) (sym r.stream) l) in
    let same : h ≡ left.how = same_end b.how h left.how (sym c.in-Some.ensures) leaves.ended.how in
    let obeyed : h ≡ how.Halted → (stop : Stop) × HasSeen k looked stop × CloseBehind (view left.seat).events stop.at = λ e.
    let f = halted_for P told a b found look.result look.ensures.obeys (sym c.in-Some.ensures ∙ ap (λ x. Some x) e) in
    (f.0, look_finds k w.board old looked look.ensures.looks f.0 f.1, left_behind told P w b j.stream j.rows.items h left.how r.loads (view left.seat) left.shelf left.unopened r.begun run leaves f.0.at f.2) in
    subst (λ i. HasPlaces i (view c.interrupt_run.new.seat) c.interrupt_run.new.at.view left.how) r.stream
    (subst (λ x. HasPlaces k (view c.interrupt_run.new.seat) c.interrupt_run.new.at.view x) same
    (places_by k (view left.seat) (view c.interrupt_run.new.seat) looked c.interrupt_run.new.at h c.interrupt_run.ensures.view (c.interrupt_run.ensures.named after.set) c.interrupt_run.ensures.stops obeyed))

pub returns-in-Some-clause-others : goal.returns-in-Some-clause-others
returns-in-Some-clause-others g c =
    let look = c.look_and_step-load in
    let view = g.S.RowSeat.view in
    let fits = g.S.RowSeat.fits in
    let told = g.V.Device.told in
    let P = standing g.F.Feed.stands g.F.Feed.comes in
    let r = c.requires.runs.2 in
    let w = c.requires.runs.0 in
    let last = look.new.seat.view.last in
    let a = stepping view g.F.PipeState.values c.args.self.stepper in
    let b = stepping view g.F.PipeState.values look.new.stepper in
    let j = c.args.self.lease.0 in
    let run = obeyed_ends told P w a b r.loads r.given look.ensures.since (option_or last.own last.root) look.result look.ensures.obeys c.in-Some.how (sym c.in-Some.ensures) in
    let leaves = c.leave-left.ensures.leaves w.start.site (visiting_at told P j.stream j.rows.items w b.site r.lease r.leased r.begun run.since) in
    let by = r.given.since.alone.by ∙ (r.begun.guest.by ∙ sym (ap Inner r.stream)) in
    let first = subst (λ k. OthersFit view fits k c.args.desk.now look.new.desk) by look.ensures.others in
    let second = subst (λ k. OthersFit view fits k look.new.desk c.leave-left.new.desk) (ap Inner (r.lease ∙ sym r.stream)) c.leave-left.ensures.others in
    let left_by = ended_by told j.stream j.rows.items w.start.site b (view c.leave-left.result.seat) c.leave-left.result.shelf c.leave-left.result.unopened c.leave-left.result.how leaves ∙ (run.since.alone.by ∙ (r.begun.guest.by ∙ sym (ap Inner r.stream))) in
    let third = subst (λ k. OthersFit view fits k c.leave-left.new.desk c.interrupt_run.new.desk) left_by c.interrupt_run.ensures.others in
    λ o ne f. third o ne (second o ne (first o ne f))
