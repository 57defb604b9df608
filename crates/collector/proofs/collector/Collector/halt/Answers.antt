-- The root is closed since the mark.
use Rattle.std.proofs.Common.{◌≡◌, ◌∙◌, Some, None, refl, sym, ap, subst}
use Rattle.chunk_core.specs.declared.code.How.TheVariants as how
use Rattle.join_report.specs.Calls.{EndsOuter}
use Rattle.join_tree.specs.Mains.{IsMain}
use Rattle.pull_stepper.specs.Held.{FinishesDevice}
use Rattle.row_seat.specs.Fronts.{sight_of}
use Rattle.row_seat.specs.Views.{OthersFit}
use Rattle.row_seat.specs.declared.front.Sight.{Sight}
use Rattle.scope_tree.specs.Calls.{Seen}
use Rattle.scope_tree.specs.Trees.{seen}
use Rattle.collector.specs.Starting.{ClosesOuter, ClosesOuterBehind}
use Rattle.collector.specs.declared.collector.Collector.{Collector}
use Rattle.collector.proofs.Marked.{closes_behind}
use Rattle.collector.proofs.collector.Collector.halt.Goals as goal

pub close-requires-clause-main : goal.close-requires-clause-main
close-requires-clause-main g c =
    let m = c.requires.main in
    (m.0, m.1, m.2, subst (λ (b : Seen _). IsMain (FinishesDevice g.V.Device.told) m.0 m.1 b m.2) (sym c.see_so_far-mark.ensures.seen) m.3, m.4)

pub recall-requires-clause-marked : goal.recall-requires-clause-marked
recall-requires-clause-marked g c =
    let s = c.see_so_far-mark.new.self.tree.seat in
    g.met.S.MarksFront.mark_stays s c.see_so_far-mark.result _ c.see_so_far-mark.new.desk c.close.new.desk c.see_so_far-mark.ensures.fits.seat c.close.ensures.others c.see_so_far-mark.ensures.marked

pub recall-requires-clause-name : goal.recall-requires-clause-name
recall-requires-clause-name g c =
    let m = c.requires.main in
    let main = subst (λ (b : Seen _). IsMain (FinishesDevice g.V.Device.told) m.0 m.1 b m.2) (sym c.see_so_far-mark.ensures.seen) m.3 in
    let by = (c.close.ensures.closes.main m.0 m.1 m.2 main m.4).by in
    ap (λ (x : Sight). x.by) c.see_so_far-mark.ensures.sight ∙ (c.requires.main.3.by ∙ sym by)

pub returns-clause-closes : goal.returns-clause-closes
returns-clause-closes g c =
    let view = g.S.RowSeat.view in
    subst (λ (b : Seen _). ClosesOuter (FinishesDevice g.V.Device.told) how.Halted (seen view c.args.self.now.tree) b) (sym c.recall.ensures.seen)
    (subst (λ (a : Seen _). ClosesOuter (FinishesDevice g.V.Device.told) how.Halted a (seen view c.close.new.self.tree)) c.see_so_far-mark.ensures.seen c.close.ensures.closes)

pub returns-clause-behind : goal.returns-clause-behind
returns-clause-behind g c =
    let view = g.S.RowSeat.view in
    let m = c.requires.main in
    let main = subst (λ (b : Seen _). IsMain (FinishesDevice g.V.Device.told) m.0 m.1 b m.2) (sym c.see_so_far-mark.ensures.seen) m.3 in
    let s = c.see_so_far-mark.ensures in
    let x = g.S.MarksFront.sight c.see_so_far-mark.result in
    let is : x ≡ sight_of (seen view c.see_so_far-mark.new.self.tree).seat x.front = subst (λ (b : Seen _). x ≡ sight_of b.seat x.front) (sym s.seen) s.sight in
    subst (λ (b : Seen _). ClosesOuterBehind c.args.at b) (sym c.recall.ensures.seen)
    (closes_behind (seen view c.see_so_far-mark.new.self.tree) (seen view c.close.new.self.tree) m.0 m.1 m.2 main m.4 c.close.ensures.closes x is c.recall.ensures.behind c.args.at s.front)

pub returns-clause-report : goal.returns-clause-report
returns-clause-report g c = subst (λ (x : Collector _ _ _ _ _). EndsOuter how.Halted x.report c.close.new.self.report) c.see_so_far-mark.ensures.same c.close.ensures.report

pub returns-clause-same : goal.returns-clause-same
returns-clause-same g c =
    let first = ap (λ (x : Collector _ _ _ _ _). record x { tree = c.recall.new.self }) c.close.ensures.same in
    first ∙ ap (λ (x : Collector _ _ _ _ _). record x { tree = c.recall.new.self; report = c.close.new.self.report; outer = Some how.Halted }) c.see_so_far-mark.ensures.same

pub returns-clause-others : goal.returns-clause-others
returns-clause-others g c =
    let view = g.S.RowSeat.view in let fits = g.S.RowSeat.fits in
    let m = c.requires.main in
    let main = subst (λ (b : Seen _). IsMain (FinishesDevice g.V.Device.told) m.0 m.1 b m.2) (sym c.see_so_far-mark.ensures.seen) m.3 in
    let by = (c.close.ensures.closes.main m.0 m.1 m.2 main m.4).by in
    let first = subst (λ k. OthersFit view fits k c.args.desk.now c.see_so_far-mark.new.desk) c.requires.main.3.by c.see_so_far-mark.ensures.others in
    let last = subst (λ k. OthersFit view fits k c.close.new.desk c.recall.new.desk) by c.recall.ensures.others in
    λ o n f. last o n (c.close.ensures.others o n (first o n f))
