-- The root is closed since the mark.
use Rattle.std.proofs.Common.{◌≡◌, sym, ap, ◌∙◌, subst}
use Rattle.pull_turns.specs.Led.{CanBeCut}
use Rattle.pull_turns.specs.Piping.{standing}
use Rattle.row_seat.specs.Fronts.{StandsBehind}
use Rattle.row_seat.specs.Views.{OthersFit}
use Rattle.row_seat.specs.declared.front.Sight.{Sight}
use Rattle.scope_tree.specs.Trees.{Fits}
use Rattle.pull_stepper.specs.Behind.{ClosesRootBehind}
use Rattle.pull_stepper.specs.Held.{FinishesDevice}
use Rattle.pull_stepper.specs.declared.resources.Resources.{Resources}
use Rattle.pull_stepper.specs.Sites.{Since, told_at}
use Rattle.pull_stepper.specs.Steppers.{stepping}
use Rattle.pull_stepper.specs.Stepping.{Halts, Stepping}
use Rattle.pull_stepper.proofs.Again.{stepping_again, works_again}
use Rattle.pull_stepper.proofs.Marking.{closed_behind}
use Rattle.pull_stepper.proofs.stepper.Stepper.halt_behind.Goals as goal

pub recall-requires-clause-fits : goal.recall-requires-clause-fits
recall-requires-clause-fits g c = subst (λ (r : Resources _ _ _ _). Fits g.S.RowSeat.view g.S.RowSeat.fits r.tree c.halt.new.desk) (sym c.outside_mut.ensures.value) c.halt.ensures.fits.stands.tree

pub recall-requires-clause-marked : goal.recall-requires-clause-marked
recall-requires-clause-marked g c =
    let s = c.args.self.now.runner.outside.tree.seat in
    g.met.S.MarksFront.mark_stays s c.args.mark (g.S.RowSeat.view s).by c.args.desk.now c.halt.new.desk c.requires.fits.stands.tree.seat c.halt.ensures.others c.requires.marked

pub recall-requires-clause-name : goal.recall-requires-clause-name
recall-requires-clause-name g c =
    ap (λ (x : Sight). x.by) c.requires.sight ∙ (sym c.halt.ensures.since.alone.by ∙ sym (ap (λ (r : Resources _ _ _ _). (g.S.RowSeat.view r.tree.seat).by) c.outside_mut.ensures.value))

pub returns-clause-halts : goal.returns-clause-halts
returns-clause-halts g c =
    let view = g.S.RowSeat.view in let values = g.F.PipeState.values in
    let e = stepping_again view c.halt.new.self c.outside_mut.result.now c.recall.new.self c.outside_mut.ensures.value c.recall.ensures.seen values in
    subst (λ b. Halts g.V.Device.told (stepping view values c.args.self.now) b) (sym e) c.halt.ensures.halts

pub returns-clause-behind : goal.returns-clause-behind
returns-clause-behind g c =
    let view = g.S.RowSeat.view in let values = g.F.PipeState.values in
    let e = stepping_again view c.halt.new.self c.outside_mut.result.now c.recall.new.self c.outside_mut.ensures.value c.recall.ensures.seen values in
    let x = g.S.MarksFront.sight c.args.mark in
    let stands : StandsBehind x (view c.halt.new.self.runner.outside.tree.seat).events = subst (λ (r : Resources _ _ _ _). StandsBehind x (view r.tree.seat).events) c.outside_mut.ensures.value c.recall.ensures.behind in
    subst (λ (b : Stepping _ _). ClosesRootBehind b.site.tree.seat x.front) (sym e) (closed_behind c.halt.ensures.since.calls x c.requires.sight stands c.requires.root)

pub returns-clause-cut : goal.returns-clause-cut
returns-clause-cut g c can =
    let view = g.S.RowSeat.view in let values = g.F.PipeState.values in let a = stepping view values c.args.self.now in
    let e = stepping_again view c.halt.new.self c.outside_mut.result.now c.recall.new.self c.outside_mut.ensures.value c.recall.ensures.seen values in
    subst (λ (b : Stepping _ _). CanBeCut (standing g.F.Feed.stands g.F.Feed.comes a.tables) (told_at g.V.Device.told b.site) a.rest) (sym e) (c.halt.ensures.cut can)

pub returns-clause-fits : goal.returns-clause-fits
returns-clause-fits g c = works_again g.S.RowSeat.view c.halt.new.self c.outside_mut.result.now c.recall.new.self c.outside_mut.ensures.value c.recall.ensures.seen g.V.Device.told g.S.RowSeat.fits c.halt.new.desk c.recall.new.desk c.halt.ensures.fits c.recall.ensures.fits

pub returns-clause-since : goal.returns-clause-since
returns-clause-since g c =
    let view = g.S.RowSeat.view in let values = g.F.PipeState.values in let told = g.V.Device.told in
    let e = stepping_again view c.halt.new.self c.outside_mut.result.now c.recall.new.self c.outside_mut.ensures.value c.recall.ensures.seen values in
    subst (λ (b : Stepping _ _). Since told (FinishesDevice told) (stepping view values c.args.self.now).site b.site) (sym e) c.halt.ensures.since

pub returns-clause-others : goal.returns-clause-others
returns-clause-others g c =
    let view = g.S.RowSeat.view in let fits = g.S.RowSeat.fits in
    let by = ap (λ (r : Resources _ _ _ _). (view r.tree.seat).by) c.outside_mut.ensures.value ∙ c.halt.ensures.since.alone.by in
    let second = subst (λ k. OthersFit view fits k c.halt.new.desk c.recall.new.desk) by c.recall.ensures.others in
    λ o n f. second o n (c.halt.ensures.others o n f)
