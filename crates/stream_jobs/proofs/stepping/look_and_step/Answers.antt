-- A stepper that is halted closes behind the front that its seat has seen.
use Rattle.std.proofs.Common.{None, refl, sym, ap, ◌∙◌, subst}
use Rattle.pull_turns.specs.Piping.{standing}
use Rattle.row_seat.specs.Views.{OthersFit}
use Rattle.scope_tree.specs.Calls.{IsOpenScope}
use Rattle.pull_stepper.specs.Held.{FinishesDevice}
use Rattle.pull_stepper.specs.Sites.{Since}
use Rattle.pull_stepper.specs.Steppers.{stepping}
use Rattle.pull_stepper.specs.Stepping.{Halts, Stepping}
use Rattle.stream_jobs.specs.Steps.{ObeysFound}
use Rattle.stream_jobs.proofs.Placing.{closes_sooner, sight_seen}
use Rattle.stream_jobs.proofs.stepping.look_and_step.Goals as goal

pub halt_behind-requires-clause-runs : goal.halt_behind-requires-clause-runs
halt_behind-requires-clause-runs g c = ap (λ (s : Stepping _ _). s.how) c.see_so_far-mark.ensures.same ∙ c.requires.can.how

pub halt_behind-requires-clause-root : goal.halt_behind-requires-clause-root
halt_behind-requires-clause-root g c = subst (λ (s : Stepping _ _). IsOpenScope s.site.tree 0) (sym c.see_so_far-mark.ensures.same) c.requires.can.step.opened

pub halt_behind-requires-clause-sight : goal.halt_behind-requires-clause-sight
halt_behind-requires-clause-sight g c =
    let view = g.S.RowSeat.view in let values = g.F.PipeState.values in
    let m = c.see_so_far-mark in
    let x = g.S.MarksFront.sight m.result in
    sight_seen (stepping view values c.args.stepper.now) (stepping view values m.new.stepper) x x.front m.ensures.sight (sym m.ensures.same)

pub returns-in-Some-clause-obeys : goal.returns-in-Some-clause-obeys
returns-in-Some-clause-obeys g c =
    let view = g.S.RowSeat.view in let values = g.F.PipeState.values in let told = g.V.Device.told in
    let P = standing g.F.Feed.stands g.F.Feed.comes in
    let a = stepping view values c.args.stepper.now in
    let h = c.halt_behind in
    let b = stepping view values h.new.self in
    let m = c.see_so_far-mark in
    let stop = c.in-Some.stop in
    let halts : Halts told a b = subst (λ s. Halts told s b) m.ensures.same h.ensures.halts in
    let behind = closes_sooner b.site.tree.seat stop.at (g.S.MarksFront.sight m.result).front m.ensures.front h.ensures.behind in
    subst (λ o. ObeysFound P told o a b None) c.in-Some.ensures.answer (halts, refl, behind)

pub returns-in-Some-clause-since : goal.returns-in-Some-clause-since
returns-in-Some-clause-since g c =
    let told = g.V.Device.told in
    subst (λ (s : Stepping _ _). Since told (FinishesDevice told) s.site (stepping g.S.RowSeat.view g.F.PipeState.values c.halt_behind.new.self).site) c.see_so_far-mark.ensures.same c.halt_behind.ensures.since

pub returns-in-Some-clause-others : goal.returns-in-Some-clause-others
returns-in-Some-clause-others g c =
    let m = c.see_so_far-mark in
    let second = subst (λ (s : Stepping _ _). OthersFit g.S.RowSeat.view g.S.RowSeat.fits s.site.tree.seat.by m.new.desk c.halt_behind.new.desk) m.ensures.same c.halt_behind.ensures.others in
    λ o n f. second o n (m.ensures.others o n f)
