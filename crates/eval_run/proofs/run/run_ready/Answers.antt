-- The stream was begun and evaluated, or couldn't be begun.
use Rattle.std.proofs.Common.{◌∙◌, ◌++◌, ◌∷◌, [], ap, refl, subst}
use Rattle.eval_work.specs.Works.{result_of}
use Rattle.lone_stream.specs.Ran.{RunsLone}
use Rattle.res_ledger.specs.declared.event.StreamNo.TheVariants.{Inner}
use Rattle.eval_run.specs.Runs.{Evaluated}
use Rattle.eval_run.proofs.LinesFile.{lines_first, unbegun_so}
use Rattle.eval_run.proofs.run.run_ready.Goals as goal

pub begin-requires-clause-room : goal.begin-requires-clause-room
begin-requires-clause-room g c = (Inner 0, c.requires.ready.room)

pub begin-requires-clause-first : goal.begin-requires-clause-first
begin-requires-clause-first g c = lines_first c.args.ready.node c.requires.ready.node

pub evaluate-ran-requires-clause-begun : goal.evaluate-ran-requires-clause-begun
evaluate-ran-requires-clause-begun g c κs within = (c.args.ready.node, _, _, c.in-Ok.ensures.begun (Inner 0) c.requires.ready.room, c.requires.ready.node)

pub returns-in-Ok-clause-evaluated : goal.returns-in-Ok-clause-evaluated
returns-in-Ok-clause-evaluated g c =
    let d = c.of_vec-devices.ensures ∙ ((rw c.unwrap.ensures at c.push.ensures.items) ∙ ap (λ ds. ds ++ c.args.device ∷ []) c.requires.ready.devices) in
    subst (λ ds. Evaluated g.V.Device.told (result_of c.args.ready.work) c.args.group c.args.ready.node ds (g.K.Sink.told c.args.out.now) (g.K.Sink.told c.evaluate-ran.new.out) c.evaluate-ran.result.0 c.evaluate-ran.result.1) d
    (c.evaluate-ran.ensures c.args.ready.node c.of_vec-devices.result _ (c.in-Ok.ensures.begun (Inner 0) c.requires.ready.room))

pub returns-in-Err-clause-evaluated : goal.returns-in-Err-clause-evaluated
returns-in-Err-clause-evaluated g c =
    let d = c.of_vec-devices.ensures ∙ ((rw c.unwrap.ensures at c.push.ensures.items) ∙ ap (λ ds. ds ++ c.args.device ∷ []) c.requires.ready.devices) in
    let u = c.in-Err.ensures.unbegun (Inner 0) c.requires.ready.room in
    let so = g.K.Sink.told c.args.out.now in
    unbegun_so g.V.Device.told (result_of c.args.ready.work) c.args.group c.args.ready.node (c.args.device ∷ []) so so c.in-Err.ran
    (subst (λ ds. RunsLone g.V.Device.told (Inner 0) c.args.ready.node ds [] c.in-Err.ran) d u.1) refl
