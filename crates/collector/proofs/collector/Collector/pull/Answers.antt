-- The outer stream is pulled once more, unless it has ended.
use Rattle.std.proofs.Common.{◌+◌, [], ap, arith, inl, length, refl, subst, sym, ◌∙◌}
use Rattle.std.specs.Prelude.{IsSome}
use Rattle.pull_turns.specs.Piping.{standing}
use Rattle.collector.specs.Collecting.{IsCollecting, between}
use Rattle.collector.specs.Members.{members}
use Rattle.collector.specs.declared.collector.Collector.{Collector}
use Rattle.collector.proofs.Looking.{unknown_still}
use Rattle.collector.proofs.OuterSteps.{ended_already, finds_none, finds_this, found_still, halted, looked, more_may, open_so, whole_found}
use Rattle.collector.proofs.Tree.{root_open}
use Rattle.collector.proofs.collector.Collector.pull.Goals as goal

pub returns-then-is_some-clause-collecting : goal.returns-then-is_some-clause-collecting
returns-then-is_some-clause-collecting g c sink d0 s0 k = more_may k 2 (omega arith) (λ n. k.tree.some n (omega arith))

pub skip-requires-clause-collecting : goal.skip-requires-clause-collecting
skip-requires-clause-collecting g c =
    let a = c.args.self.now in
    let r = c.requires.collecting in
    let none = open_so a.outer (sym c.is_some.ensures ∙ c.if-is_some.false) in
    let f = finds_this a.stops c.look.new.self c.look.result c.in-Some.found c.in-Some.is c.look.ensures.finds in
    let k = r.1.2 in
    (c.args.plan.now, g.D.Depot.told c.args.depot.now, r.0, (r.1.0, r.1.1, looked k 1 c.look.new.self f.0 f.1 c.look.ensures.seated k.tree.few (λ l. k.tree.some none l)))

pub skip-requires-clause-may : goal.skip-requires-clause-may
skip-requires-clause-may g c =
    let a = c.args.self.now in
    let f = finds_this a.stops c.look.new.self c.look.result c.in-Some.found c.in-Some.is c.look.ensures.finds in
    inl (c.in-Some.found, whole_found a.stops c.look.new.self f.0 c.in-Some.found f.1 f.2)

pub halt-requires-clause-fits : goal.halt-requires-clause-fits
halt-requires-clause-fits g c =
    let a = c.args.self.now in
    let r = c.requires.collecting in
    let none = open_so a.outer (sym c.is_some.ensures ∙ c.if-is_some.false) in
    let f = finds_this a.stops c.look.new.self c.look.result c.in-Some.found c.in-Some.is c.look.ensures.finds in
    let k = r.1.2 in
    let l = looked k 1 c.look.new.self f.0 f.1 c.look.ensures.seated k.tree.few (λ l. k.tree.some none l) in
    (c.skip.ensures.collecting c.args.plan.now (g.D.Depot.told c.args.depot.now) r.0 r.1.0 r.1.1 l).fits_desk

pub halt-requires-clause-main : goal.halt-requires-clause-main
halt-requires-clause-main g c =
    let a = c.args.self.now in
    let p = c.args.plan.now in
    let r = c.requires.collecting in
    let none = open_so a.outer (sym c.is_some.ensures ∙ c.if-is_some.false) in
    let f = finds_this a.stops c.look.new.self c.look.result c.in-Some.found c.in-Some.is c.look.ensures.finds in
    let k = r.1.2 in
    let l = looked k 1 c.look.new.self f.0 f.1 c.look.ensures.seated k.tree.few (λ l. k.tree.some none l) in
    let s = c.skip.ensures.collecting p (g.D.Depot.told c.args.depot.now) r.0 r.1.0 r.1.1 l in
    (_, _, s.progress, s.tree.main, root_open g.V.Device.told p s.tree (c.skip.ensures.outer ∙ none))

pub returns-in-Some-clause-collecting : goal.returns-in-Some-clause-collecting
returns-in-Some-clause-collecting g c sink d0 s0 k =
    let M = members g.S.RowSeat.view g.V.Device.told g.S.RowSeat.fits g.F.PipeState.values (standing g.F.Feed.stands g.F.Feed.comes) in
    let a = c.args.self.now in
    let p = c.args.plan.now in
    let depot = g.D.Depot.told c.args.depot.now in
    let w = c.in-Some.found in
    let none = open_so a.outer (sym c.is_some.ensures ∙ c.if-is_some.false) in
    let f = finds_this a.stops c.look.new.self c.look.result w c.in-Some.is c.look.ensures.finds in
    let l = looked k 1 c.look.new.self f.0 f.1 c.look.ensures.seated k.tree.few (λ l. k.tree.some none l) in
    let s = c.skip.ensures.collecting p depot sink d0 s0 l in
    let found = whole_found a.stops c.look.new.self f.0 w f.1 f.2 in
    let few = s.tree.few in
    let e = c.halt.ensures in
    subst (λ (x : Collector _ _ _ _ _). IsCollecting M p d0 s0 (between 2 depot sink c.halt.new.desk x)) (sym e.same)
    (halted s 2 c.halt.new.self.tree c.halt.new.self.report c.halt.new.desk w (omega (arith, few)) (c.skip.ensures.outer ∙ none) (found_still c.look.new.self c.skip.new.self.stops w found c.skip.ensures.stops) e.closes e.behind e.fits e.others e.report)

pub draw-requires-clause-collecting : goal.draw-requires-clause-collecting
draw-requires-clause-collecting g c =
    let a = c.args.self.now in
    let r = c.requires.collecting in
    let f = finds_none a.stops c.look.new.self c.look.result c.in-None.is c.look.ensures.finds in
    (r.0, (r.1.0, r.1.1, looked r.1.2 (length a.waiting.items) c.look.new.self [] f.0 c.look.ensures.seated (omega arith) (λ l. omega (arith, l))))

pub returns-in-None-clause-collecting : goal.returns-in-None-clause-collecting
returns-in-None-clause-collecting g c sink d0 s0 k =
    let a = c.args.self.now in
    let f = finds_none a.stops c.look.new.self c.look.result c.in-None.is c.look.ensures.finds in
    let l = looked k (length a.waiting.items) c.look.new.self [] f.0 c.look.ensures.seated (omega arith) (λ l. omega (arith, l)) in
    let n = c.draw.ensures.collecting sink d0 s0 l in
    let few = k.tree.few in
    more_may n 2 (omega (arith, few)) (λ o. n.tree.some o (omega arith))

pub draw-requires-clause-first : goal.draw-requires-clause-first
draw-requires-clause-first g c none =
    let open' = open_so c.args.self.now.outer (sym c.is_some.ensures ∙ c.if-is_some.false) in
    let some = c.requires.collecting.1.2.tree.some open' (omega arith) in
    absurd (omega (arith, none, some))

pub draw-requires-clause-unknown : goal.draw-requires-clause-unknown
draw-requires-clause-unknown g c = let f = finds_none c.args.self.now.stops c.look.new.self c.look.result c.in-None.is c.look.ensures.finds in unknown_still c.args.self.now.stops c.look.new.self 0 f.0 f.1

pub draw-requires-clause-few : goal.draw-requires-clause-few
draw-requires-clause-few g c = let few = c.requires.few in let waits = c.requires.collecting.1.2.tree.few in omega (arith, few, waits)

pub returns-then-is_some-clause-stops : goal.returns-then-is_some-clause-stops
returns-then-is_some-clause-stops g c w none known = ended_already c.args.self.now.outer (sym c.is_some.ensures ∙ c.if-is_some.true) none

pub returns-in-Some-clause-stops : goal.returns-in-Some-clause-stops
returns-in-Some-clause-stops g c w none known =
    let same = c.halt.ensures.same in
    (subst (λ (x : Collector _ _ _ _ _). IsSome x.outer) (sym same) refl, ap (λ (x : Collector _ _ _ _ _). x.outer_stream.outer.leased) same ∙ ap (λ x. x.outer.leased) c.skip.ensures.given)

pub returns-in-None-clause-stops : goal.returns-in-None-clause-stops
returns-in-None-clause-stops g c w none known = absurd ((finds_none c.args.self.now.stops c.look.new.self c.look.result c.in-None.is c.look.ensures.finds).1 w known)
