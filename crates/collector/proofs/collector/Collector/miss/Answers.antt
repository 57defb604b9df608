-- The stream is missed, its lease cancelled, and what was made for it kept.
use Rattle.std.proofs.Common.{◌∙◌, [], ◌++◌, ◌∷◌, ap, arith, map, refl, subst, sym, vec_capacity}
use Rattle.pipeline_desc.specs.Meant.{stream_limit}
use Rattle.pipeline_desc.proofs.NodeLaws.{limit_le}
use Rattle.pull_turns.specs.Piping.{standing}
use Rattle.collector.specs.Collecting.{IsCollecting, between}
use Rattle.collector.specs.Members.{members}
use Rattle.collector.specs.Trees.{waiting_of}
use Rattle.collector.specs.declared.collector.Collector.{Collector}
use Rattle.dealt_streams.specs.declared.leftover.Leftover.{Leftover}
use Rattle.collector.proofs.Steps.{below, miss_step}
use Rattle.collector.proofs.Tree.{cancel_free}
use Rattle.collector.proofs.collector.Collector.miss.Goals as goal

pub pass_over-requires-clause-main : goal.pass_over-requires-clause-main
pass_over-requires-clause-main g c =
    let k = c.requires.collecting.3.2 in
    (c.args.plan.now.max_open, stream_limit c.args.plan.now, k.progress, map waiting_of c.args.self.now.waiting.items, k.tree.main, k.tree.waits_are)

pub pass_over-requires-clause-free : goal.pass_over-requires-clause-free
pass_over-requires-clause-free g c = cancel_free g.V.Device.told c.args.plan.now c.requires.collecting.3.2.tree

pub miss-requires : goal.miss-requires
miss-requires g c =
    let q = c.requires.collecting in
    let k = q.3.2 in
    let n = k.telling.report_is.unwritten in
    let b = below (between 2 q.1 q.2 c.args.desk.now c.args.self.now) k in
    omega (arith, n, b)

pub pass_over-requires-clause-number : goal.pass_over-requires-clause-number
pass_over-requires-clause-number g c =
    let q = c.requires.collecting in
    let k = q.3.2 in
    let b = below (between 2 q.1 q.2 c.args.desk.now c.args.self.now) k in
    let few = limit_le c.args.plan.now k.sound in
    omega (arith, few, b)

pub push_reserved-requires : goal.push_reserved-requires
push_reserved-requires g c =
    let a = c.args.self.now in
    let q = c.requires.collecting in
    let k = q.3.2 in
    let b = below (between 2 q.1 q.2 c.args.desk.now a) k in
    let room = k.room.left in
    let n = k.next in
    let size = a.left.ok.0 in
    let same = ap (λ (x : Collector _ _ _ _ _). x.left.len) c.pass_over.ensures.same in
    let cap = ap (λ (x : Collector _ _ _ _ _). vec_capacity x.left) c.pass_over.ensures.same in
    omega (arith, room, b, n, size, same, cap)

pub returns : goal.returns
returns g c = record {
  collecting = λ path before now sink s is made d0 s0 k.
      let a = c.args.self.now in
      let i = c.interrupt.ensures in
      let e = c.pass_over.ensures in
      let q = c.push_reserved.ensures in
      let few = k.tree.few in
      let y : Leftover _ = record { shelf = c.new.result; unopened = c.args.unopened } in
      let left = c.push_reserved.new.self in
      subst (λ (x : Collector _ _ _ _ _). IsCollecting (members g.S.RowSeat.view g.V.Device.told g.S.RowSeat.fits g.F.PipeState.values (standing g.F.Feed.stands g.F.Feed.comes)) c.args.plan.now d0 s0 (between 1 now sink c.pass_over.new.desk (record x { left = left }))) (sym e.same)
      (miss_step (between 2 before sink c.args.desk.now a) k c.pass_over.new.self.tree c.interrupt.new.self c.miss.new.self left c.pass_over.new.desk i.marks.0 i.marks.1 now c.args.unopened y s e.passes e.fits e.others refl i.marks.2 i.marks.3 i.seated c.miss.ensures is made c.new.ensures refl
      (q.items ∙ ap (λ (x : Collector _ _ _ _ _). x.left.items ++ y ∷ []) e.same) (q.capacity ∙ ap (λ (x : Collector _ _ _ _ _). vec_capacity x.left) e.same) 1 (omega (arith, few)) (λ n l. c.requires.ahead n));
}
