use Rattle.std.proofs.Common.{take}
use Rattle.ledger_audit.specs.Orders.{IsJudged}
use Rattle.ledger_audit.proofs.order.first_disordered.Given as goal

abbrev pub invariant-loop-i : goal.invariant-loop-i
invariant-loop-i l = IsJudged l.order l.events (take l.i l.events)
