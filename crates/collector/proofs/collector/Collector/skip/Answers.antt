-- The stream that waits is skipped.
use Rattle.std.proofs.Common.{arith, subst, sym}
use Rattle.pipeline_desc.proofs.NodeLaws.{limit_le}
use Rattle.pull_turns.specs.Piping.{standing}
use Rattle.collector.specs.Collecting.{IsCollecting, between}
use Rattle.collector.specs.Members.{members}
use Rattle.collector.proofs.Lists.{nothing_popped}
use Rattle.collector.proofs.Steps.{below, requeued, skip_step, widened}
use Rattle.collector.proofs.Tree.{cancel_free}
use Rattle.collector.proofs.collector.Collector.skip.Goals as goal

pub pass_over-requires-clause-free : goal.pass_over-requires-clause-free
pass_over-requires-clause-free g c =
    let r = c.requires.collecting in
    let k = requeued r.3.2 _ c.pop_front.new.self c.in-Some.ensures.items c.pop_front.ensures.capacity in
    cancel_free g.V.Device.told r.0 k.tree

pub pass_over-requires-clause-number : goal.pass_over-requires-clause-number
pass_over-requires-clause-number g c =
    let r = c.requires.collecting in
    let q = c.pop_front.new.self in
    let k = requeued r.3.2 _ q c.in-Some.ensures.items c.pop_front.ensures.capacity in
    let b = below (between 1 r.1 r.2 c.args.desk.now (record c.args.self.now { waiting = q })) k in
    let few = limit_le r.0 k.sound in
    omega (arith, few, b)

pub returns-in-Some-clause-collecting : goal.returns-in-Some-clause-collecting
returns-in-Some-clause-collecting g c p depot sink d0 s0 h =
    let M = members g.S.RowSeat.view g.V.Device.told g.S.RowSeat.fits g.F.PipeState.values (standing g.F.Feed.stands g.F.Feed.comes) in
    let a = c.args.self.now in
    let q = c.pop_front.new.self in
    let e = c.pass_over.ensures in
    let k = requeued h _ q c.in-Some.ensures.items c.pop_front.ensures.capacity in
    let few = k.tree.few in
    subst (λ x. IsCollecting M p d0 s0 (between 0 depot sink c.pass_over.new.desk x)) (sym e.same)
    (skip_step (between 1 depot sink c.args.desk.now (record a { waiting = q })) k c.pass_over.new.self.tree c.pass_over.new.desk e.passes e.fits e.others c.requires.may 0 (omega (arith, few)) (λ z l. absurd (omega (arith, l))))

pub returns-in-None-clause-collecting : goal.returns-in-None-clause-collecting
returns-in-None-clause-collecting g c p depot sink d0 s0 h =
    let a = c.args.self.now in
    let q = c.pop_front.new.self in
    let none = nothing_popped a.waiting.items q.items c.in-None.ensures.items c.pop_front.ensures.rest in
    widened (requeued h _ q c.in-None.ensures.items c.pop_front.ensures.capacity) 0 (omega (arith, none)) (λ z l. absurd (omega (arith, l)))
