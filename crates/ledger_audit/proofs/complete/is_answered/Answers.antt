use Rattle.std.proofs.Common.{◌≡◌, ◌↔◌, true, sym, subst}
use Rattle.ledger_audit.specs.Complete.{IsAnswered}
use Rattle.ledger_audit.proofs.complete.is_answered.Goals as goal

pub returns-else-not-is_final : goal.returns-else-not-is_final
returns-else-not-is_final c = subst (λ w. (c.is_closed-in-Acquire.result ≡ true) ↔ IsAnswered c.args.past.now c.args.event.by w) (sym c.in-Acquire.is)
    ((λ h. (c.is_final.ensures.0 c.if-not-is_final.false, c.is_closed-in-Acquire.ensures.0 h)), (λ a. c.is_closed-in-Acquire.ensures.1 a.1))
