use Rattle.pull_turns.proofs.Entered.{scope_entered, weak_entered, weak_failed}
use Rattle.pull_turns.proofs.Stepping.{on_err, same_broken}
use Rattle.pull_turns.proofs.enter.enter.Goals as goal

pub returns-in-Ok-clause-stepped : goal.returns-in-Ok-clause-stepped
returns-in-Ok-clause-stepped g c n =
    let ready = rw c.in-Weak.is at c.requires.ready in
    rw (c.in-Weak.is, c.into_inner.ensures) (weak_entered _ _ _ _ _ n _ _ _ _ (g.O.Outside.untried _ _ c.requires.fits _ ready.ready.0) ready c.in-Ok.ensures.ok)

pub returns-in-Err-clause-stepped : goal.returns-in-Err-clause-stepped
returns-in-Err-clause-stepped g c n =
    let ready = rw c.in-Weak.is at c.requires.ready in
    rw c.in-Weak.is (weak_failed _ _ _ _ _ n _ _ _ _ (g.O.Outside.untried _ _ c.requires.fits _ ready.ready.0) ready c.in-Err.ensures.failed)

pub returns-in_err-a-in-Scope-clause-broken : goal.returns-in_err-a-in-Scope-clause-broken
returns-in_err-a-in-Scope-clause-broken g c = on_err c.from_residual.result (same_broken _ _)

pub returns-in_ok-a-in-Scope-clause-stepped : goal.returns-in_ok-a-in-Scope-clause-stepped
returns-in_ok-a-in-Scope-clause-stepped g c n = rw (c.in-Scope.is, c.in_ok-a-in-Scope.ensures) (scope_entered _ _ _ _ _ n _ _ _ _ _ (rw c.in-Scope.is at c.requires.ready) c.enter-child.ensures.enters)

pub returns-in_default-clause-broken : goal.returns-in_default-clause-broken
returns-in_default-clause-broken g c = on_err c.enter_part.result (same_broken _ _)
