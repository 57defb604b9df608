use Rattle.std.proofs.Common.{◌≤◌, List, length, refl, subst}
use Rattle.std.proofs.lemmas.List.{append-nil}
use Rattle.std.specs.Prelude.{count_by}
use Rattle.pipeline_desc.specs.Limits.{most_steps}
use Rattle.pipeline_desc.specs.Steps.{puts_between}
use Rattle.pipeline_desc.specs.declared.step.Step.{Step}
use Rattle.pipeline_desc.proofs.Each.{goes_on, handed_on, passed, stopped}
use Rattle.pipeline_desc.proofs.lists.list.Goals as goal

pub returns-in_err-on_fault-clause-meant : goal.returns-in_err-on_fault-clause-meant
returns-in_err-on_fault-clause-meant c =
    handed_on (λ l. l) c.from_residual-in_err-on_fault.result _ _ c.from_residual-in_err-on_fault.ensures.1
    (passed _ _ _ _ c.in_ok-check_keys.ensures
    (passed _ _ _ _ c.in_ok-path.ensures.meant
    (passed _ _ _ _ c.in_ok-each.ensures.meant
    (stopped _ _ _ c.in_err-on_fault.ensures.meant))))

pub returns-in_err-max-clause-meant : goal.returns-in_err-max-clause-meant
returns-in_err-max-clause-meant c =
    handed_on (λ l. l) c.from_residual-in_err-max.result _ _ c.from_residual-in_err-max.ensures.1
    (passed _ _ _ _ c.in_ok-check_keys.ensures
    (passed _ _ _ _ c.in_ok-path.ensures.meant
    (passed _ _ _ _ c.in_ok-each.ensures.meant
    (passed _ _ _ _ c.in_ok-on_fault.ensures.meant
    (stopped _ _ _ c.in_err-max.ensures.meant)))))

pub returns-in_err-check_steps-clause-meant : goal.returns-in_err-check_steps-clause-meant
returns-in_err-check_steps-clause-meant c =
    handed_on (λ l. l) c.from_residual-in_err-check_steps.result _ _ c.from_residual-in_err-check_steps.ensures.1
    (passed _ _ _ _ c.in_ok-check_keys.ensures
    (passed _ _ _ _ c.in_ok-path.ensures.meant
    (passed _ _ _ _ c.in_ok-each.ensures.meant
    (passed _ _ _ _ c.in_ok-on_fault.ensures.meant
    (passed _ _ _ _ c.in_ok-max.ensures.meant
    (stopped _ _ _ c.in_err-check_steps.ensures.fitting))))))

pub returns-in_err-kind_given-clause-meant : goal.returns-in_err-kind_given-clause-meant
returns-in_err-kind_given-clause-meant c =
    handed_on (λ l. l) c.from_residual-in_err-kind_given.result _ _ c.from_residual-in_err-kind_given.ensures.1
    (passed _ _ _ _ c.in_ok-check_keys.ensures
    (passed _ _ _ _ c.in_ok-path.ensures.meant
    (passed _ _ _ _ c.in_ok-each.ensures.meant
    (passed _ _ _ _ c.in_ok-on_fault.ensures.meant
    (passed _ _ _ _ c.in_ok-max.ensures.meant
    (passed _ _ _ _ c.in_ok-check_steps.ensures.fitting
    (stopped _ _ _ c.in_err-kind_given.ensures.meant)))))))

pub returns-clause-meant : goal.returns-clause-meant
returns-clause-meant c =
    (goes_on _ _ _ _ c.in_ok-check_keys.ensures
    (goes_on _ _ _ _ c.in_ok-path.ensures.meant
    (goes_on _ _ _ _ c.in_ok-each.ensures.meant
    (goes_on _ _ _ _ c.in_ok-on_fault.ensures.meant
    (goes_on _ _ _ _ c.in_ok-max.ensures.meant
    (goes_on _ _ _ _ c.in_ok-check_steps.ensures.fitting
    (goes_on _ _ _ _ c.in_ok-kind_given.ensures.meant
    refl)))))))

pub returns-clause-sound : goal.returns-clause-sound
returns-clause-sound c =
    let steps = c.in_ok-each.each in
    record {
      path = c.in_ok-path.ensures.sound;
      steps = c.in_ok-each.ensures.sound;
      few = subst (λ (l : List Step). length l ≤ most_steps) (append-nil steps) c.in_ok-check_steps.ensures.few;
      between = subst (λ (l : List Step). count_by puts_between l ≤ 1) (append-nil steps) c.in_ok-check_steps.ensures.between;
      on_fault = c.in_ok-on_fault.ensures.sound;
      some_listed = c.in_ok-max.ensures.some;
      few_listed = c.in_ok-max.ensures.few;
      kinds = c.in_ok-kind_given.ensures.kind;
    }
