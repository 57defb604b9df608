-- No branch was given anything.
use Rattle.std.proofs.Common.{◌∷◌, ◌∙◌, ap, false, true, refl}
use Rattle.res_ledger.specs.declared.event.StreamNo.TheVariants.{Outer}
use Rattle.run_rules.specs.declared.end.EndOf.{EndOf}
use Rattle.tee_run.specs.Telling.{all_halted, ends_from}
use Rattle.tee_run.proofs.Begun.{unbegun}
use Rattle.tee_run.proofs.tee.run_unbegun.Goals as goal

pub returns : goal.returns
returns g c = λ n devices start lone.
    let o : EndOf = record { who = Outer; how = c.args.ran.how } in
    unbegun g.V.Device.told c.args.branches.now n devices start c.args.ran (record { ends = c.unbegun_ends.result; ledger = c.args.ran.ledger; sink_failed = false; memory = true }) c.requires.memory lone refl
    (c.unbegun_ends.ensures ∙ ap (λ k. o ∷ ends_from 0 (all_halted k)) c.len.ensures) refl refl
