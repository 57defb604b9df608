-- The stream is taken a look further.
use Rattle.std.proofs.Common.{◌≡◌, ◌++◌, IfSome, None, Some, refl, rules, sym, ◌∙◌, subst}
use Rattle.res_ledger.specs.declared.event.StreamNo.TheVariants.{Inner}
use Rattle.row_seat.specs.Views.{OthersFit}
use Rattle.pull_turns.specs.Piping.{standing}
use Rattle.pull_stepper.specs.Steppers.{stepping}
use Rattle.std.specs.Option.{option_or}
use Rattle.stream_jobs.specs.declared.running.Stage.TheVariants as stage
use Rattle.stream_jobs.specs.Learned.{HasLearned}
use Rattle.stream_jobs.specs.Messages.{IsFullMessage, held}
use Rattle.stream_jobs.specs.Running.{RunsOn, ended_at}
use Rattle.stream_jobs.proofs.Learning.{load_full}
use Rattle.stream_jobs.proofs.Working.{job_on, news_full, news_stream, some_same, stage_stands}
use Rattle.stream_jobs.proofs.job.Job.advance.Goals as goal

pub returns-clause-job : goal.returns-clause-job
returns-clause-job g c w h =
    let view = g.S.RowSeat.view in
    let values = g.F.PipeState.values in
    let told = g.V.Device.told in
    let P = standing g.F.Feed.stands g.F.Feed.comes in
    let a = c.args.self.now in
    let x = c.in-Some-Running.running in
    let q : a.stage ≡ Some (stage.Running x) = search rules in
    let r : RunsOn told P view values w x (a.sender.sent ++ held a.waiting) = stage_stands view values told P w a (stage.Running x) h q in
    let m = c.advance-stage.ensures.moves in
    let message = c.advance-stage.result.message in
    let waits : IfSome message (λ z. z.stream ≡ w.stream) = subst (λ k. IfSome message (λ z. z.stream ≡ k)) r.stream (news_stream x.stream m.behind.how m.load message m.says) in
    let full : IfSome message IsFullMessage = news_full x.stream m.behind.how m.load message m.says (load_full P told (stepping view values x.stepper) m.behind (option_or m.looked.view.last.own m.looked.view.last.root) m.load m.obeys) in
    let before : HasLearned w.stream w.board a.board None = subst (λ s. HasLearned w.stream w.board a.board (ended_at s)) (some_same a.stage h.stage (stage.Running x) h.stage_is q) h.learned in
    job_on view values told P w a _ c.advance-stage.result.stage h c.requires.none refl refl c.fill.ensures waits full (c.advance-stage.ensures.stands w (a.sender.sent ++ held a.waiting) r)
    (c.advance-stage.ensures.learned w (a.sender.sent ++ held a.waiting) r before) (c.advance-stage.ensures.places w (a.sender.sent ++ held a.waiting) r before)

pub returns-clause-others : goal.returns-clause-others
returns-clause-others g c =
    let view = g.S.RowSeat.view in
    let values = g.F.PipeState.values in
    let told = g.V.Device.told in
    let P = standing g.F.Feed.stands g.F.Feed.comes in
    let a = c.args.self.now in
    let j = c.requires.job in
    let x = c.in-Some-Running.running in
    let q : a.stage ≡ Some (stage.Running x) = search rules in
    let r : RunsOn told P view values j.0 x (a.sender.sent ++ held a.waiting) = stage_stands view values told P j.0 a (stage.Running x) j.1 q in
    subst (λ k. OthersFit view g.S.RowSeat.fits (Inner k) c.args.desk.now c.advance-stage.new.desk) (r.stream ∙ sym j.1.sender) c.advance-stage.ensures.others
