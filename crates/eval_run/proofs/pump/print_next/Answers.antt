-- The result is printed, or kept back by what stopped the printing.
use Rattle.std.proofs.Common.{None, Option, Some, ◌^◌, ◌-◌, subst}
use Rattle.eval_run.specs.Pumping.{IsPumping}
use Rattle.eval_run.specs.declared.stop.Stop.{Stop}
use Rattle.eval_run.proofs.Printed.{room_left}
use Rattle.eval_run.proofs.Pumped.{kept_none, kept_same, taken_done, taken_last, taken_more}
use Rattle.eval_run.proofs.pump.print_next.Goals as goal

pub take-worked-requires : goal.take-worked-requires
take-worked-requires g c = let p = c.requires.pumping in record { crew = (p.1, p.2, p.3.crew, p.4) }

pub print_result-requires : goal.print_result-requires
print_result-requires g c = let p = c.requires.pumping in record { room = room_left p.0 (g.K.Sink.told c.args.out.now) p.2 c.args.stop (2 ^ 64 - 1) p.3.printed c.in-None.is p.5 }

pub returns-in-Some-clause-taken : goal.returns-in-Some-clause-taken
returns-in-Some-clause-taken g c first ds ws p =
    let at = c.args.place.now in
    let r = g.W.Work.result_of in
    let q = subst (λ (z : Option Stop). IsPumping r at.work.now at.lanes.now c.args.crew.now first (g.K.Sink.told c.args.out.now) ds ws z) c.in-Some.is p in
    (c.take-worked.result, taken_more r at.work.now at.lanes.now first ds ws c.args.crew.now c.take-worked.new.self (g.K.Sink.told c.args.out.now) c.take-worked.result c.in-Some.stop q (c.take-worked.ensures ds ws p.crew))

pub returns-in-Some-clause-kept : goal.returns-in-Some-clause-kept
returns-in-Some-clause-kept g c = kept_same c.args.stop (Some c.in-Some.stop) c.in-Some.is

pub returns-in-Ok-clause-taken : goal.returns-in-Ok-clause-taken
returns-in-Ok-clause-taken g c first ds ws p =
    let at = c.args.place.now in
    let r = g.W.Work.result_of in
    let q = subst (λ (z : Option Stop). IsPumping r at.work.now at.lanes.now c.args.crew.now first (g.K.Sink.told c.args.out.now) ds ws z) c.in-None.is p in
    (c.take-worked.result, taken_done r at.work.now at.lanes.now first ds ws c.args.crew.now c.take-worked.new.self (g.K.Sink.told c.args.out.now) (g.K.Sink.told c.print_result.new.out) c.take-worked.result tt q (c.take-worked.ensures ds ws p.crew) c.in-Ok.ensures)

pub returns-in-Ok-clause-kept : goal.returns-in-Ok-clause-kept
returns-in-Ok-clause-kept g c = kept_none c.args.stop None c.in-None.is

pub returns-clause-taken : goal.returns-clause-taken
returns-clause-taken g c first ds ws p =
    let at = c.args.place.now in
    let r = g.W.Work.result_of in
    let q = subst (λ (z : Option Stop). IsPumping r at.work.now at.lanes.now c.args.crew.now first (g.K.Sink.told c.args.out.now) ds ws z) c.in-None.is p in
    (c.take-worked.result, taken_last r at.work.now at.lanes.now first ds ws c.args.crew.now c.take-worked.new.self (g.K.Sink.told c.args.out.now) (g.K.Sink.told c.print_result.new.out) c.take-worked.result c.in-Err.stop q (c.take-worked.ensures ds ws p.crew) c.in-Err.ensures)

pub returns-clause-kept : goal.returns-clause-kept
returns-clause-kept g c = kept_none c.args.stop (Some c.in-Err.stop) c.in-None.is
