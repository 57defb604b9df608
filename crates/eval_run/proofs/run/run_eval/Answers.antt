-- Whatever became of the device, the lines were evaluated.
use Rattle.std.proofs.Common.{◌∷◌, [], refl, subst}
use Rattle.cat_run.proofs.Unmade.{outcome_is}
use Rattle.eval_work.specs.Works.{result_of}
use Rattle.eval_run.specs.Runs.{Evaluated}
use Rattle.eval_run.proofs.Finished.{eval_ran, eval_unmade, may_return}
use Rattle.eval_run.proofs.LinesFile.{lines_supplied}
use Rattle.eval_run.proofs.run.run_eval.Goals as goal

pub returns-in_default : goal.returns-in_default
returns-in_default g c =
    let u = c.unmade.ensures in
    eval_unmade c.args.path.now c.args.steps.now c.args.group _ _ _ _ c.unmade.result refl refl (outcome_is c.unmade.result _ _ _ _ u.ends u.ledger u.sink u.memory)

pub run_ready-evaluation-requires-clause-device : goal.run_ready-evaluation-requires-clause-device
run_ready-evaluation-requires-clause-device g c κs within = lines_supplied g.D.Dev.Device.told _ (g.D.Depot.told c.make.new.self) c.args.path.now c.in-Ok.ready.node c.in-Ok-make.device c.in-Ok.ensures.ready.node c.in-Ok-make.ensures.made

pub finish-requires-clause-may : goal.finish-requires-clause-may
finish-requires-clause-may g c =
    let e = subst (λ xs. Evaluated g.D.Dev.Device.told (result_of xs) c.args.group c.in-Ok.ready.node (c.in-Ok-make.device ∷ []) (g.K.Sink.told c.args.out.now) (g.K.Sink.told c.run_ready-evaluation.new.out) c.run_ready-evaluation.result.ran c.run_ready-evaluation.result.stop) c.in-Ok.ensures.work c.run_ready-evaluation.ensures.evaluated in
    may_return g.D.Dev.Device.told c.args.path.now c.args.steps.now c.args.group _ (g.D.Depot.told c.make.new.self) _ _ c.in-Ok.ready.node c.in-Ok-make.device c.in-Ok.ensures.ready.node c.in-Ok-make.ensures.made c.run_ready-evaluation.result.ran c.run_ready-evaluation.result.stop e

pub returns-in-Ok-make : goal.returns-in-Ok-make
returns-in-Ok-make g c =
    let e = subst (λ xs. Evaluated g.D.Dev.Device.told (result_of xs) c.args.group c.in-Ok.ready.node (c.in-Ok-make.device ∷ []) (g.K.Sink.told c.args.out.now) (g.K.Sink.told c.run_ready-evaluation.new.out) c.run_ready-evaluation.result.ran c.run_ready-evaluation.result.stop) c.in-Ok.ensures.work c.run_ready-evaluation.ensures.evaluated in
    let f = c.finish.ensures in
    eval_ran g.D.Dev.Device.told c.args.path.now c.args.steps.now c.args.group _ (g.D.Depot.told c.make.new.self) _ _ c.in-Ok.ready.node c.in-Ok-make.device c.in-Ok.ensures.ready.node c.in-Ok-make.ensures.made c.run_ready-evaluation.result.ran c.run_ready-evaluation.result.stop e
    (λ d. (g.met.D.Dev.Device.no_open d, g.met.D.Dev.Device.within d)) _ f.returns c.finish.result f.ends f.ledger f.broken f.memory

pub returns-in-Err : goal.returns-in-Err
returns-in-Err g c =
    let u = c.unmade-in-Err.ensures in
    eval_unmade c.args.path.now c.args.steps.now c.args.group _ _ _ _ c.unmade-in-Err.result c.in-Err.ensures.unmade refl (outcome_is c.unmade-in-Err.result _ _ _ _ u.ends u.ledger u.sink u.memory)
