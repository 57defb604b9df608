use Rattle.std.proofs.Common.{◌<◌, ◌^◌, length, ◌∙◌, subst, arith}
use Rattle.std.proofs.lemmas.List.{take_all}
use Rattle.std.specs.List.{AllByRecursion}
use Rattle.res_ledger.specs.Limits.{IsSmallEvent}
use Rattle.chunk_core.proofs.Each.{each_more}
use Rattle.res_ledger.proofs.ledger.Ledger.of_events.Goals as goal

pub loop-event-preserved : goal.loop-event-preserved
loop-event-preserved c = each_more IsSmallEvent _ _ _ c.loop-event-test.true c.loop-event.invariant c.look_at.ensures

pub invariant_of-result : goal.invariant_of-result
invariant_of-result c =
    let items = c.deref-event-items.ensures.value in
    let fits : length c.args.events.items < 2 ^ 64 = omega (arith, c.args.events.ok.0, c.args.events.ok.1, c.args.events.small) in
    (c.requires, subst (AllByRecursion IsSmallEvent) (take_all c.loop-event.event-index c.deref-event-items.result.now c.loop-event-test.false ∙ items) c.loop-event.invariant, fits)
