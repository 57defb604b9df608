use Rattle.std.proofs.Common.{refl}
use Rattle.pipeline_desc.proofs.Each.{goes_on, handed_on, passed, stopped}
use Rattle.pipeline_desc.proofs.streams.stream.Goals as goal

pub returns-in_err-after-clause-meant : goal.returns-in_err-after-clause-meant
returns-in_err-after-clause-meant c =
    handed_on (λ s. s) c.from_residual-in_err-after.result _ _ c.from_residual-in_err-after.ensures.1
    (passed _ _ _ _ c.in_ok-check_keys.ensures
    (passed _ _ _ _ c.in_ok-path.ensures.meant
    (passed _ _ _ _ c.in_ok-before.ensures.meant
    (passed _ _ _ _ c.in_ok-side.ensures.meant
    (passed _ _ _ _ c.in_ok-join.ensures
    (stopped _ _ _ c.in_err-after.ensures.meant))))))

pub returns-in_err-on_fault-clause-meant : goal.returns-in_err-on_fault-clause-meant
returns-in_err-on_fault-clause-meant c =
    handed_on (λ s. s) c.from_residual-in_err-on_fault.result _ _ c.from_residual-in_err-on_fault.ensures.1
    (passed _ _ _ _ c.in_ok-check_keys.ensures
    (passed _ _ _ _ c.in_ok-path.ensures.meant
    (passed _ _ _ _ c.in_ok-before.ensures.meant
    (passed _ _ _ _ c.in_ok-side.ensures.meant
    (passed _ _ _ _ c.in_ok-join.ensures
    (passed _ _ _ _ c.in_ok-after.ensures.meant
    (stopped _ _ _ c.in_err-on_fault.ensures.meant)))))))

pub returns-in_err-to-clause-meant : goal.returns-in_err-to-clause-meant
returns-in_err-to-clause-meant c =
    handed_on (λ s. s) c.from_residual-in_err-to.result _ _ c.from_residual-in_err-to.ensures.1
    (passed _ _ _ _ c.in_ok-check_keys.ensures
    (passed _ _ _ _ c.in_ok-path.ensures.meant
    (passed _ _ _ _ c.in_ok-before.ensures.meant
    (passed _ _ _ _ c.in_ok-side.ensures.meant
    (passed _ _ _ _ c.in_ok-join.ensures
    (passed _ _ _ _ c.in_ok-after.ensures.meant
    (passed _ _ _ _ c.in_ok-on_fault.ensures.meant
    (stopped _ _ _ c.in_err-to.ensures.meant))))))))

pub returns-in_err-until-clause-meant : goal.returns-in_err-until-clause-meant
returns-in_err-until-clause-meant c =
    handed_on (λ s. s) c.from_residual-in_err-until.result _ _ c.from_residual-in_err-until.ensures.1
    (passed _ _ _ _ c.in_ok-check_keys.ensures
    (passed _ _ _ _ c.in_ok-path.ensures.meant
    (passed _ _ _ _ c.in_ok-before.ensures.meant
    (passed _ _ _ _ c.in_ok-side.ensures.meant
    (passed _ _ _ _ c.in_ok-join.ensures
    (passed _ _ _ _ c.in_ok-after.ensures.meant
    (passed _ _ _ _ c.in_ok-on_fault.ensures.meant
    (passed _ _ _ _ c.in_ok-to.ensures.meant
    (stopped _ _ _ c.in_err-until.ensures.meant)))))))))

pub returns-in_err-second-clause-meant : goal.returns-in_err-second-clause-meant
returns-in_err-second-clause-meant c =
    handed_on (λ s. s) c.from_residual-in_err-second.result _ _ c.from_residual-in_err-second.ensures.1
    (passed _ _ _ _ c.in_ok-check_keys.ensures
    (passed _ _ _ _ c.in_ok-path.ensures.meant
    (passed _ _ _ _ c.in_ok-before.ensures.meant
    (passed _ _ _ _ c.in_ok-side.ensures.meant
    (passed _ _ _ _ c.in_ok-join.ensures
    (passed _ _ _ _ c.in_ok-after.ensures.meant
    (passed _ _ _ _ c.in_ok-on_fault.ensures.meant
    (passed _ _ _ _ c.in_ok-to.ensures.meant
    (passed _ _ _ _ c.in_ok-until.ensures.meant
    (stopped _ _ _ c.in_err-second.ensures.meant))))))))))

pub returns-in_err-check_steps-clause-meant : goal.returns-in_err-check_steps-clause-meant
returns-in_err-check_steps-clause-meant c =
    handed_on (λ s. s) c.from_residual-in_err-check_steps.result _ _ c.from_residual-in_err-check_steps.ensures.1
    (passed _ _ _ _ c.in_ok-check_keys.ensures
    (passed _ _ _ _ c.in_ok-path.ensures.meant
    (passed _ _ _ _ c.in_ok-before.ensures.meant
    (passed _ _ _ _ c.in_ok-side.ensures.meant
    (passed _ _ _ _ c.in_ok-join.ensures
    (passed _ _ _ _ c.in_ok-after.ensures.meant
    (passed _ _ _ _ c.in_ok-on_fault.ensures.meant
    (passed _ _ _ _ c.in_ok-to.ensures.meant
    (passed _ _ _ _ c.in_ok-until.ensures.meant
    (passed _ _ _ _ c.in_ok-second.ensures.meant
    (stopped _ _ _ c.in_err-check_steps.ensures.fitting)))))))))))

pub returns-in_err-kind_given-clause-meant : goal.returns-in_err-kind_given-clause-meant
returns-in_err-kind_given-clause-meant c =
    handed_on (λ s. s) c.from_residual-in_err-kind_given.result _ _ c.from_residual-in_err-kind_given.ensures.1
    (passed _ _ _ _ c.in_ok-check_keys.ensures
    (passed _ _ _ _ c.in_ok-path.ensures.meant
    (passed _ _ _ _ c.in_ok-before.ensures.meant
    (passed _ _ _ _ c.in_ok-side.ensures.meant
    (passed _ _ _ _ c.in_ok-join.ensures
    (passed _ _ _ _ c.in_ok-after.ensures.meant
    (passed _ _ _ _ c.in_ok-on_fault.ensures.meant
    (passed _ _ _ _ c.in_ok-to.ensures.meant
    (passed _ _ _ _ c.in_ok-until.ensures.meant
    (passed _ _ _ _ c.in_ok-second.ensures.meant
    (passed _ _ _ _ c.in_ok-check_steps.ensures.fitting
    (stopped _ _ _ c.in_err-kind_given.ensures.meant))))))))))))

pub returns-clause-meant : goal.returns-clause-meant
returns-clause-meant c =
    (goes_on _ _ _ _ c.in_ok-check_keys.ensures
    (goes_on _ _ _ _ c.in_ok-path.ensures.meant
    (goes_on _ _ _ _ c.in_ok-before.ensures.meant
    (goes_on _ _ _ _ c.in_ok-side.ensures.meant
    (goes_on _ _ _ _ c.in_ok-join.ensures
    (goes_on _ _ _ _ c.in_ok-after.ensures.meant
    (goes_on _ _ _ _ c.in_ok-on_fault.ensures.meant
    (goes_on _ _ _ _ c.in_ok-to.ensures.meant
    (goes_on _ _ _ _ c.in_ok-until.ensures.meant
    (goes_on _ _ _ _ c.in_ok-second.ensures.meant
    (goes_on _ _ _ _ c.in_ok-check_steps.ensures.fitting
    (goes_on _ _ _ _ c.in_ok-kind_given.ensures.meant
    refl))))))))))))
