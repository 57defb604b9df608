use Rattle.std.proofs.Common.{subst}
use Rattle.std.specs.Prelude.{IfOk}
use Rattle.ledger_verdict.specs.Verdict.{IsVerdict}
use Rattle.ledger_audit.proofs.judge.audit.Goals as goal

pub returns-in-None : goal.returns-in-None
returns-in-None c = subst (λ l. IfOk c.of_legal.result (IsVerdict l)) c.as_slice-events.ensures.items c.of_legal.ensures

pub returns-in-Some : goal.returns-in-Some
returns-in-Some c = subst (λ l. IfOk c.of_illegal.result (IsVerdict l)) c.as_slice-events.ensures.items c.of_illegal.ensures
