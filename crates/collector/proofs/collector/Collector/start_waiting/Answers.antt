-- The stream is skipped, missed or begun.
use Rattle.std.proofs.Common.{◌+◌, [], ◌∙◌, ap, arith, inl, inr, subst, sym}
use Rattle.csv_pipes.specs.Dictionaries.{values_of}
use Rattle.pipeline_desc.proofs.NodeLaws.{limit_le}
use Rattle.pull_turns.specs.Piping.{standing}
use Rattle.collector.specs.Collecting.{IsCollecting, between}
use Rattle.collector.specs.Members.{members}
use Rattle.collector.specs.declared.collector.Collector.{Collector}
use Rattle.collector.proofs.Looking.{found, may_begin, may_skip, unfound}
use Rattle.collector.proofs.Steps.{below, is_named, learns_step, skip_step}
use Rattle.collector.proofs.Tree.{cancel_free}
use Rattle.collector.proofs.collector.Collector.start_waiting.Goals as goal

pub overflow_add-self : goal.overflow_add-self
overflow_add-self g c =
    let r = c.requires.collecting in
    let k = r.1.2 in
    let b = below (between 2 (g.D.Depot.told c.args.depot.now) r.0 c.args.desk.now c.args.self.now) k in
    let few = limit_le c.args.plan.now k.sound in
    omega (arith, few, b)

pub is_set-requires-clause-context : goal.is_set-requires-clause-context
is_set-requires-clause-context g c =
    let r = c.requires.collecting in
    let k = r.1.2 in
    let b = below (between 2 (g.D.Depot.told c.args.depot.now) r.0 c.args.desk.now c.args.self.now) k in
    let n = k.telling.contexts in
    omega (arith, n, b)

pub pass_over-requires-clause-free : goal.pass_over-requires-clause-free
pass_over-requires-clause-free g c = cancel_free g.V.Device.told c.args.plan.now c.requires.collecting.1.2.tree

pub pass_over-requires-clause-number : goal.pass_over-requires-clause-number
pass_over-requires-clause-number g c =
    let r = c.requires.collecting in
    let k = r.1.2 in
    let b = below (between 2 (g.D.Depot.told c.args.depot.now) r.0 c.args.desk.now c.args.self.now) k in
    let few = limit_le c.args.plan.now k.sound in
    omega (arith, few, b)

pub equip-requires-clause-within : goal.equip-requires-clause-within
equip-requires-clause-within g c =
    let r = c.requires.collecting in
    below (between 2 (g.D.Depot.told c.args.depot.now) r.0 c.args.desk.now c.args.self.now) r.1.2

pub equip-requires-clause-named : goal.equip-requires-clause-named
equip-requires-clause-named g c =
    let r = c.requires.collecting in
    is_named (between 2 (g.D.Depot.told c.args.depot.now) r.0 c.args.desk.now c.args.self.now) r.1.2

pub begin-requires-clause-may : goal.begin-requires-clause-may
begin-requires-clause-may g c κs within =
    let a = c.args.self.now in
    let s = c.is_set in
    let u = unfound a.stops s.new.self (1 + a.next) s.result s.ensures.looks c.if-is_set.false in
    may_begin (record a { stops = s.new.self }) a.stops u.0 u.1 u.2

pub begin-requires-clause-tables : goal.begin-requires-clause-tables
begin-requires-clause-tables g c κs within = c.requires.values c.in-Ok.field-0.made.tables ∙ ap values_of c.in-Ok.ensures.tables

pub begin-requires-clause-collecting : goal.begin-requires-clause-collecting
begin-requires-clause-collecting g c κs within =
    let a = c.args.self.now in
    let r = c.requires.collecting in
    let s = c.is_set in
    let u = unfound a.stops s.new.self (1 + a.next) s.result s.ensures.looks c.if-is_set.false in
    (c.args.waiting.path, g.D.Depot.told c.args.depot.now, g.D.Depot.told c.equip.new.depot, r.0, c.in-Ok.ensures.parts, (r.1.0, r.1.1, learns_step r.1.2 s.new.self [] u.0 s.ensures.seated))

pub miss-requires-clause-collecting : goal.miss-requires-clause-collecting
miss-requires-clause-collecting g c κs within =
    let a = c.args.self.now in
    let r = c.requires.collecting in
    let s = c.is_set in
    let u = unfound a.stops s.new.self (1 + a.next) s.result s.ensures.looks c.if-is_set.false in
    (c.args.waiting.path, g.D.Depot.told c.args.depot.now, r.0, (r.1.0, r.1.1, learns_step r.1.2 s.new.self [] u.0 s.ensures.seated))

pub returns-then-is_set : goal.returns-then-is_set
returns-then-is_set g c = record {
  collecting = λ sink d0 s0 k.
      let M = members g.S.RowSeat.view g.V.Device.told g.S.RowSeat.fits g.F.PipeState.values (standing g.F.Feed.stands g.F.Feed.comes) in
      let a = c.args.self.now in
      let p = c.args.plan.now in
      let depot = g.D.Depot.told c.args.depot.now in
      let s = c.is_set in
      let f = found a.stops s.new.self (1 + a.next) s.result s.ensures.looks c.if-is_set.true in
      let b : Collector _ _ _ _ _ = record a { stops = s.new.self } in
      let e = c.pass_over.ensures in
      let known = learns_step k s.new.self f.0 f.1 s.ensures.seated in
      let few = k.tree.few in
      subst (λ (x : Collector _ _ _ _ _). IsCollecting M p d0 s0 (between 1 depot sink c.pass_over.new.desk x)) (sym e.same)
      (skip_step (between 2 depot sink c.args.desk.now b) known c.pass_over.new.self.tree c.pass_over.new.desk e.passes e.fits e.others
      (may_skip b a.stops f.0 f.1 f.2 (λ one. s.ensures.seated.settled (let room = k.room.jobs_room in let l = c.requires.few in let seats = k.telling.seats in let out = f.1.out in omega (arith, one, room, l, seats, out))))
      1 (omega (arith, few)) (λ n l. c.requires.ahead n));
}

pub returns-in-Ok : goal.returns-in-Ok
returns-in-Ok g c = record {
  collecting = λ sink d0 s0 k.
      let a = c.args.self.now in
      let s = c.is_set in
      let u = unfound a.stops s.new.self (1 + a.next) s.result s.ensures.looks c.if-is_set.false in
      c.begin.ensures.collecting c.args.waiting.path (g.D.Depot.told c.args.depot.now) (g.D.Depot.told c.equip.new.depot) sink c.in-Ok.ensures.parts d0 s0 (learns_step k s.new.self [] u.0 s.ensures.seated);
}

pub returns : goal.returns
returns g c = record {
  collecting = λ sink d0 s0 k.
      let a = c.args.self.now in
      let s = c.is_set in
      let u = unfound a.stops s.new.self (1 + a.next) s.result s.ensures.looks c.if-is_set.false in
      let no = c.in-Err.ensures.unmade in
      c.miss.ensures.collecting c.args.waiting.path (g.D.Depot.told c.args.depot.now) (g.D.Depot.told c.equip.new.depot) sink no.0 no.1 (inl (c.new.ensures, inr no.2)) d0 s0 (learns_step k s.new.self [] u.0 s.ensures.seated);
}
