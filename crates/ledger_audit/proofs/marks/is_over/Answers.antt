use Rattle.std.proofs.Common.{sym, subst}
use Rattle.chunk_core.specs.Lists.{has}
use Rattle.res_ledger.specs.Order.{covered}
use Rattle.ledger_audit.specs.Marks.{Tells}
use Rattle.ledger_audit.proofs.Marking.{over_any}
use Rattle.ledger_audit.proofs.marks.is_over.Goals as goal

pub returns-in-Nothing : goal.returns-in-Nothing
returns-in-Nothing c = λ d t. sym (over_any (λ r. has r (covered c.args.past.now)) d (subst (λ m. Tells c.args.past.now c.args.torn.now m d) c.in-Nothing.is t).0)

pub returns-in-Canceled : goal.returns-in-Canceled
returns-in-Canceled c = λ d t. sym (over_any (λ r. has r (covered c.args.past.now)) d (subst (λ m. Tells c.args.past.now c.args.torn.now m d) c.in-Canceled.is t).1)
