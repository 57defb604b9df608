-- The outer stream is pulled, and gives the next stream or ends.
use Rattle.std.proofs.Common.{◌≡◌, ◌+◌, List, [], length, Some, None, refl, sym, ap, ◌∙◌, subst, arith}
use Rattle.chunk_core.specs.declared.code.How.TheVariants as how
use Rattle.join_tale.specs.Steps.{TellsOuter, learned, outer_ended}
use Rattle.outer_stream.specs.declared.next.OuterPart.{OuterPart}
use Rattle.pipeline_desc.specs.Meant.{stream_limit}
use Rattle.pull_turns.specs.Piping.{standing}
use Rattle.dealt_streams.specs.Moves.{lines_of, opened_of}
use Rattle.dealt_streams.specs.Standing.{group_part}
use Rattle.dealt_streams.specs.Works.{plan_bounds}
use Rattle.collector.specs.Collecting.{IsCollecting, between}
use Rattle.collector.specs.Members.{members}
use Rattle.collector.specs.declared.collector.Collector.{Collector}
use Rattle.collector.proofs.Drawn.{came, pulled_by, source_of}
use Rattle.collector.proofs.Lists.{map_length}
use Rattle.collector.proofs.OuterSteps.{more_may, surely_done, tells_stop}
use Rattle.dealt_streams.proofs.Placing.{placed_none}
use Rattle.scope_tree.specs.Trees.{seen}
use Rattle.collector.proofs.Placed.{outer_within, placed_stop}
use Rattle.collector.proofs.Pulling.{leased_step, over_step}
use Rattle.collector.proofs.Standing.{none_some}
use Rattle.collector.proofs.Telling.{learns_none, tells_done}
use Rattle.collector.proofs.Tree.{root_open}
use Rattle.collector.proofs.Turned.{turn_step}
use Rattle.collector.proofs.collector.Collector.draw.Goals as goal

pub pull-requires-clause-limit : goal.pull-requires-clause-limit
pull-requires-clause-limit g c =
    let k = c.requires.collecting.1.2 in
    let few = k.sound.few_groups in
    let count = map_length group_part c.args.plan.now.groups in
    let own = ap (λ (ps : List OuterPart). length ps) (c.as_slice.ensures ∙ k.its_parts) in
    omega (arith, few, count, own)

pub pull-requires-clause-main : goal.pull-requires-clause-main
pull-requires-clause-main g c =
    let k = c.requires.collecting.1.2 in
    (c.args.plan.now.max_open, opened_of k.moves, lines_of k.moves, k.progress, source_of k c.requires.outer c.requires.few (c.as_slice.ensures ∙ k.its_parts))

pub stop-requires-clause-main : goal.stop-requires-clause-main
stop-requires-clause-main g c =
    let k = c.requires.collecting.1.2 in
    let o = came k c.requires.outer c.requires.few (c.as_slice.ensures ∙ k.its_parts) c.in-Over.ensures.pulls in
    (c.args.plan.now.max_open, stream_limit c.args.plan.now, record k.progress { tables = o.tables }, o.main, root_open g.V.Device.told c.args.plan.now k.tree c.requires.outer)

pub close-requires-clause-main : goal.close-requires-clause-main
close-requires-clause-main g c =
    let k = c.requires.collecting.1.2 in
    let o = came k c.requires.outer c.requires.few (c.as_slice.ensures ∙ k.its_parts) c.in-Over.ensures.pulls in
    (c.args.plan.now.max_open, stream_limit c.args.plan.now, record k.progress { tables = o.tables }, o.main, root_open g.V.Device.told c.args.plan.now k.tree c.requires.outer)

pub skip-requires-clause-collecting : goal.skip-requires-clause-collecting
skip-requires-clause-collecting g c =
    let M = members g.S.RowSeat.view g.V.Device.told g.S.RowSeat.fits g.F.PipeState.values (standing g.F.Feed.stands g.F.Feed.comes) in
    let r = c.requires.collecting in
    let sink = r.0 in
    let d0 = r.1.0 in
    let s0 = r.1.1 in
    let a = c.args.self.now in
    let turn = turn_step r.1.2 c.requires.waits c.requires.few c.requires.first c.requires.unknown in
    let k = turn.0 in
    let own = c.as_slice.ensures ∙ k.its_parts in
    let u = c.in-Over.ensures in
    let pl = pulled_by k c.requires.outer c.requires.few own u.pulls in
    let o = came k c.requires.outer c.requires.few own u.pulls in
    let e = c.stop.ensures in
    let mk = e.marks in
    let new = g.D.Depot.told c.pull.new.depot in
    let z = c.stop.new.self in
    let h = c.in-Over.how in
    let cause = sym c.in-Some.ensures ∙ ap Some (sym mk.1) in
    let i = mk.3 in
    let b = seen g.S.RowSeat.view z.tree in
    let over = over_step k turn.1 c.requires.outer pl.keeps pl.rows o z.tree z.stops z.report c.stop.new.desk i.0 i.1 e.closes e.fits (λ s ne f. e.others s ne (u.others s ne f)) e.report i.3 e.seated (tells_stop c.args.plan.now h mk.0 cause k.tale i.0 i.1 i.2)
    (λ q notes. placed_stop (plan_bounds c.args.plan.now) b q k.tale h mk.0 i.0 i.1 cause i.2 (outer_within b q h mk.0.at notes mk.2)) in
    let stopped = subst (λ (x : Collector _ _ _ _ _). IsCollecting M c.args.plan.now d0 s0 (between 1 new sink c.stop.new.desk x)) (sym e.same) (more_may over 1 c.requires.waits (λ n. none_some c.in-Over.how (sym n))) in
    (c.args.plan.now, new, sink, (d0, s0, stopped))

pub returns-in-Leased-clause-collecting : goal.returns-in-Leased-clause-collecting
returns-in-Leased-clause-collecting g c sink d0 s0 was =
    let turn = turn_step was c.requires.waits c.requires.few c.requires.first c.requires.unknown in
    let k = turn.0 in
    let M = members g.S.RowSeat.view g.V.Device.told g.S.RowSeat.fits g.F.PipeState.values (standing g.F.Feed.stands g.F.Feed.comes) in
    let a = c.args.self.now in
    let own = c.as_slice.ensures ∙ k.its_parts in
    let e = c.in-Leased.ensures in
    let pl = pulled_by k c.requires.outer c.requires.few own e.pulls in
    let waits = c.let_wait.ensures in
    let q = c.let_wait.new.self.waiting in
    subst (λ (x : Collector _ _ _ _ _). IsCollecting M c.args.plan.now d0 s0 (between (1 + length a.waiting.items) (g.D.Depot.told c.pull.new.depot) sink c.pull.new.desk x)) (sym waits.same)
    (subst (λ ws. IsCollecting M c.args.plan.now d0 s0 (record (between (1 + length a.waiting.items) (g.D.Depot.told c.pull.new.depot) sink c.pull.new.desk (record a { tree = c.pull.new.tree; outer_stream = c.pull.new.self; waiting = q })) { waiting = ws })) (sym waits.items)
    (leased_step k turn.1 c.requires.outer pl.keeps pl.rows (came k c.requires.outer c.requires.few own e.pulls) c.pull.new.tree q c.pull.new.desk refl e.fits e.others waits.room))

pub returns-in-Listed-clause-collecting : goal.returns-in-Listed-clause-collecting
returns-in-Listed-clause-collecting g c sink d0 s0 was =
    let turn = turn_step was c.requires.waits c.requires.few c.requires.first c.requires.unknown in
    let k = turn.0 in
    let M = members g.S.RowSeat.view g.V.Device.told g.S.RowSeat.fits g.F.PipeState.values (standing g.F.Feed.stands g.F.Feed.comes) in
    let a = c.args.self.now in
    let own = c.as_slice.ensures ∙ k.its_parts in
    let e = c.in-Listed.ensures in
    let pl = pulled_by k c.requires.outer c.requires.few own e.pulls in
    let waits = c.let_wait-in-Listed.ensures in
    let q = c.let_wait-in-Listed.new.self.waiting in
    subst (λ (x : Collector _ _ _ _ _). IsCollecting M c.args.plan.now d0 s0 (between (1 + length a.waiting.items) (g.D.Depot.told c.pull.new.depot) sink c.pull.new.desk x)) (sym waits.same)
    (subst (λ ws. IsCollecting M c.args.plan.now d0 s0 (record (between (1 + length a.waiting.items) (g.D.Depot.told c.pull.new.depot) sink c.pull.new.desk (record a { tree = c.pull.new.tree; outer_stream = c.pull.new.self; waiting = q })) { waiting = ws })) (sym waits.items)
    (leased_step k turn.1 c.requires.outer pl.keeps pl.rows (came k c.requires.outer c.requires.few own e.pulls) c.pull.new.tree q c.pull.new.desk refl e.fits e.others waits.room))

pub returns-in-Some-clause-collecting : goal.returns-in-Some-clause-collecting
returns-in-Some-clause-collecting g c sink d0 s0 was =
    let turn = turn_step was c.requires.waits c.requires.few c.requires.first c.requires.unknown in
    let k = turn.0 in
    let M = members g.S.RowSeat.view g.V.Device.told g.S.RowSeat.fits g.F.PipeState.values (standing g.F.Feed.stands g.F.Feed.comes) in
    let a = c.args.self.now in
    let own = c.as_slice.ensures ∙ k.its_parts in
    let u = c.in-Over.ensures in
    let pl = pulled_by k c.requires.outer c.requires.few own u.pulls in
    let o = came k c.requires.outer c.requires.few own u.pulls in
    let e = c.stop.ensures in
    let mk = e.marks in
    let new = g.D.Depot.told c.pull.new.depot in
    let z = c.stop.new.self in
    let h = c.in-Over.how in
    let cause = sym c.in-Some.ensures ∙ ap Some (sym mk.1) in
    let i = mk.3 in
    let b = seen g.S.RowSeat.view z.tree in
    let over = over_step k turn.1 c.requires.outer pl.keeps pl.rows o z.tree z.stops z.report c.stop.new.desk i.0 i.1 e.closes e.fits (λ s ne f. e.others s ne (u.others s ne f)) e.report i.3 e.seated (tells_stop c.args.plan.now h mk.0 cause k.tale i.0 i.1 i.2)
    (λ q notes. placed_stop (plan_bounds c.args.plan.now) b q k.tale h mk.0 i.0 i.1 cause i.2 (outer_within b q h mk.0.at notes mk.2)) in
    let stopped = subst (λ (x : Collector _ _ _ _ _). IsCollecting M c.args.plan.now d0 s0 (between 1 new sink c.stop.new.desk x)) (sym e.same) (more_may over 1 c.requires.waits (λ n. none_some c.in-Over.how (sym n))) in
    let skipped = c.skip.ensures.collecting c.args.plan.now new sink d0 s0 stopped in
    more_may skipped (1 + length a.waiting.items) (omega arith) (λ n. none_some c.in-Over.how (sym n ∙ (c.skip.ensures.outer ∙ ap (λ (x : Collector _ _ _ _ _). x.outer) e.same)))

pub returns-in-None-clause-collecting : goal.returns-in-None-clause-collecting
returns-in-None-clause-collecting g c sink d0 s0 was =
    let turn = turn_step was c.requires.waits c.requires.few c.requires.first c.requires.unknown in
    let k = turn.0 in
    let M = members g.S.RowSeat.view g.V.Device.told g.S.RowSeat.fits g.F.PipeState.values (standing g.F.Feed.stands g.F.Feed.comes) in
    let a = c.args.self.now in
    let p = c.args.plan.now in
    let own = c.as_slice.ensures ∙ k.its_parts in
    let u = c.in-Over.ensures in
    let pl = pulled_by k c.requires.outer c.requires.few own u.pulls in
    let o = came k c.requires.outer c.requires.few own u.pulls in
    let e = c.close.ensures in
    let h = c.in-Over.how in
    let done = surely_done h o.unhalted (sym c.in-None.ensures) in
    let tells = subst (λ i. TellsOuter (plan_bounds p) (learned (outer_ended k.tale i) [] []) i []) (sym done) (tells_done p (learned (outer_ended k.tale how.Done) [] [])) in
    let z = c.close.new.self in
    let over = over_step k turn.1 c.requires.outer pl.keeps pl.rows o z.tree a.stops z.report c.close.new.desk [] [] e.closes e.fits (λ s ne f. e.others s ne (u.others s ne f)) e.report (learns_none a.stops) k.telling.seated tells (λ q notes. placed_none (plan_bounds p) (seen g.S.RowSeat.view z.tree) q (learned (outer_ended k.tale h) [] [])) in
    subst (λ (x : Collector _ _ _ _ _). IsCollecting M p d0 s0 (between (1 + length a.waiting.items) (g.D.Depot.told c.pull.new.depot) sink c.close.new.desk x)) (sym e.same) (more_may over (1 + length a.waiting.items) (omega arith) (λ n. none_some h (sym n)))
