-- Whatever became of the device, the work of the tee was done.
use Rattle.std.proofs.Common.{refl, sym, subst}
use Rattle.cat_run.proofs.Unmade.{outcome_is}
use Rattle.lone_stream.proofs.OneFile.{file_supplied}
use Rattle.tee_run.specs.Tee.{RunsTee}
use Rattle.tee_run.proofs.Ready.{may_go, tee_makes_nothing, tee_ran}
use Rattle.tee_run.proofs.tee.run_tee.Goals as goal

pub returns-in_default : goal.returns-in_default
returns-in_default g c =
    let u = c.unmade.ensures in
    let is = outcome_is c.unmade.result _ _ _ _ u.ends u.ledger u.sink u.memory in
    subst (λ o. RunsTee c.args.path.now c.args.branches.now (g.D.Depot.told c.args.depot.now) (g.D.Depot.told c.args.depot.now) (g.K.Sink.told c.args.out.now) (g.K.Sink.told c.args.out.now) o) (sym is)
    (tee_makes_nothing c.args.path.now c.args.branches.now (g.D.Depot.told c.args.depot.now) (g.D.Depot.told c.args.depot.now) (g.K.Sink.told c.args.out.now) (g.K.Sink.told c.args.out.now) refl refl)

pub run_ready-teeing-requires-clause-device : goal.run_ready-teeing-requires-clause-device
run_ready-teeing-requires-clause-device g c κs within = file_supplied g.D.Dev.Device.told _ (g.D.Depot.told c.make.new.self) c.args.path.now c.in-Ok.ready.node c.in-Ok-make.device c.in-Ok.ensures.node c.in-Ok-make.ensures.made

pub give_back-requires : goal.give_back-requires
give_back-requires g c =
    may_go g.D.Dev.Device.told c.args.path.now c.args.branches.now _ (g.D.Depot.told c.make.new.self) _ _ c.in-Ok.ready.node c.in-Ok-make.device c.in-Ok.ensures.node c.in-Ok-make.ensures.made c.run_ready-teeing.result c.run_ready-teeing.ensures

pub returns-in-Ok-make : goal.returns-in-Ok-make
returns-in-Ok-make g c =
    rw c.give_back.ensures.outcome
    (tee_ran g.D.Dev.Device.told c.args.path.now c.args.branches.now _ (g.D.Depot.told c.make.new.self) _ _ c.in-Ok.ready.node c.in-Ok-make.device c.in-Ok.ensures.node c.in-Ok-make.ensures.made c.run_ready-teeing.result c.run_ready-teeing.ensures (λ d. (g.met.D.Dev.Device.no_open d, g.met.D.Dev.Device.within d)) _ c.give_back.ensures.returns)

pub returns-in-Err : goal.returns-in-Err
returns-in-Err g c =
    let u = c.unmade-in-Err.ensures in
    let is = outcome_is c.unmade-in-Err.result _ _ _ _ u.ends u.ledger u.sink u.memory in
    subst (λ o. RunsTee c.args.path.now c.args.branches.now (g.D.Depot.told c.args.depot.now) (g.D.Depot.told c.make.new.self) (g.K.Sink.told c.args.out.now) (g.K.Sink.told c.args.out.now) o) (sym is)
    (tee_makes_nothing c.args.path.now c.args.branches.now (g.D.Depot.told c.args.depot.now) (g.D.Depot.told c.make.new.self) (g.K.Sink.told c.args.out.now) (g.K.Sink.told c.args.out.now) c.in-Err.ensures.unmade refl)
