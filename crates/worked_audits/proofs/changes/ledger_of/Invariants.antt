use Rattle.res_ledger.specs.Ledger.{IsStamped}
use Rattle.worked_audits.proofs.changes.ledger_of.Given as goal

-- each event so far has its place
abbrev pub invariant-loop-by : goal.invariant-loop-by
invariant-loop-by l = IsStamped l.events.items
