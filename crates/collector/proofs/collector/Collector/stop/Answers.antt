-- The root is closed, and then the run interrupted behind that.
use Rattle.std.proofs.Common.{◌≡◌, ◌<◌, ◌∙◌, refl, sym, ap, subst}
use Rattle.chunk_core.specs.Lists.{IsAmong}
use Rattle.interrupt_ctx.specs.declared.why.Stop.{Stop}
use Rattle.join_report.specs.Stopping.{Interrupts, IsSeated}
use Rattle.pull_stepper.specs.Held.{FinishesDevice}
use Rattle.res_ledger.specs.declared.event.Event.{Event}
use Rattle.row_seat.specs.Views.{OthersFit}
use Rattle.scope_tree.specs.Calls.{Seen}
use Rattle.scope_tree.specs.Trees.{seen}
use Rattle.collector.specs.Starting.{ClosesOuter}
use Rattle.collector.specs.declared.collector.Collector.{Collector}
use Rattle.collector.proofs.collector.Collector.stop.Goals as goal

pub interrupt-requires-clause-seated : goal.interrupt-requires-clause-seated
interrupt-requires-clause-seated g c = subst (λ (x : Collector _ _ _ _ _). IsSeated x.stops) (sym c.close.ensures.same) c.requires.seated

pub interrupt-requires-clause-context : goal.interrupt-requires-clause-context
interrupt-requires-clause-context g c = subst (λ (x : Collector _ _ _ _ _). 0 < x.stops.board.contexts) (sym c.close.ensures.same) c.requires.context

pub returns-clause-marks : goal.returns-clause-marks
returns-clause-marks g c =
    let m = c.mark-at.ensures in
    let stop : Stop = record { why = c.args.why; at = c.mark-at.result.0 } in
    let all = subst (λ (b : Seen _). (e : Event) → IsAmong e b.seat.events → e.stamp < c.mark-at.result.0) (sym m.seen) m.front.1 in
    (stop, refl, all, subst (λ (x : Collector _ _ _ _ _). Interrupts x.stops c.interrupt.new.self 0 stop) c.close.ensures.same c.interrupt.ensures.marks)

pub returns-clause-closes : goal.returns-clause-closes
returns-clause-closes g c = subst (λ (b : Seen _). ClosesOuter (FinishesDevice g.V.Device.told) c.args.how (seen g.S.RowSeat.view c.args.self.now.tree) b) (sym c.mark-at.ensures.seen) c.close.ensures.closes

pub returns-clause-same : goal.returns-clause-same
returns-clause-same g c = ap (λ (x : Collector _ _ _ _ _). record x { tree = c.mark-at.new.self; stops = c.interrupt.new.self }) c.close.ensures.same

pub returns-clause-others : goal.returns-clause-others
returns-clause-others g c =
    let m = c.requires.main in
    let by = (c.close.ensures.closes.main m.0 m.1 m.2 m.3 m.4).by in
    let second = subst (λ k. OthersFit g.S.RowSeat.view g.S.RowSeat.fits k c.close.new.desk c.mark-at.new.desk) by c.mark-at.ensures.others in
    λ o n f. second o n (c.close.ensures.others o n f)
