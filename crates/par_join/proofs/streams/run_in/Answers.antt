-- The collector begins over the room of the run, and what it did to its end is what the plan does.
use Rattle.std.proofs.Common.{refl, ◌∙◌, arith, subst, sym}
use Rattle.pipeline_desc.specs.Meant.{stream_limit}
use Rattle.par_join.specs.Plans.{RunsPlan}
use Rattle.par_join.proofs.FirstSeat.{begins_there, first_seat}
use Rattle.par_join.proofs.PlanUnmade.{plan_unmade}
use Rattle.cat_run.proofs.Unmade.{outcome_is}
use Rattle.par_join.proofs.streams.run_in.Goals as goal

pub begin-requires : goal.begin-requires
begin-requires g c = record { start = begins_there c.args.plan.now (g.S.RowSeat.view c.args.room.seat) c.requires.room.seat }

pub run-requires-clause-fresh : goal.run-requires-clause-fresh
run-requires-clause-fresh g c κs within =
    let p = c.args.plan.now in
    let b = c.begin.ensures in
    let r = c.requires.room in
    rw c.new-collector.ensures (record {
      sound = c.requires.limits;
      fits_desk = b.fits c.args.desk.now c.requires.fits;
      main = b.main p.max_open (stream_limit p);
      seat = first_seat p _ (b.seat ∙ r.seat);
      rows = (let n = b.room.1 in let m = r.rows in omega (arith, n, m));
      used = b.used;
      scopes = (let n = b.room.0 in let m = r.scopes in omega (arith, n, m));
      outer = refl;
      given = refl;
      next = refl;
      room = c.in-Ok.ensures;
    })

pub end_run-requires-clause-collecting : goal.end_run-requires-clause-collecting
end_run-requires-clause-collecting g c = (g.D.Depot.told c.args.depot.now, g.K.Sink.told c.args.out.now, g.K.Sink.told c.run.new.out, c.run.ensures.collecting)

pub returns-in-Ok : goal.returns-in-Ok
returns-in-Ok g c = c.end_run.ensures (g.D.Depot.told c.args.depot.now) (g.K.Sink.told c.args.out.now) (g.K.Sink.told c.run.new.out) c.run.ensures.collecting

pub returns-in-Err : goal.returns-in-Err
returns-in-Err g c =
    let u = c.unmade.ensures in
    let is = outcome_is c.unmade.result _ _ _ _ u.ends u.ledger u.sink u.memory in
    subst (λ o. RunsPlan c.args.plan.now (g.D.Depot.told c.args.depot.now) (g.D.Depot.told c.args.depot.now) (g.K.Sink.told c.args.out.now) (g.K.Sink.told c.args.out.now) o) (sym is)
    (plan_unmade c.args.plan.now (g.D.Depot.told c.args.depot.now) (g.D.Depot.told c.args.depot.now) (g.K.Sink.told c.args.out.now) (g.K.Sink.told c.args.out.now) refl refl)
