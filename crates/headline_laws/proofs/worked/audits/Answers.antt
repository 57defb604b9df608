use Rattle.std.proofs.Common.{inr}
use Rattle.headline_laws.proofs.Auditing.{clean_ledger_holds, unended_ledger_holds, unread_ledger_holds, unwritten_verdict_holds}
use Rattle.headline_laws.proofs.worked.audits.Goals as goal

pub returns : goal.returns
returns c = record {
  is_clean_ledger = inr clean_ledger_holds;
  is_unended_ledger = inr unended_ledger_holds;
  is_unwritten_verdict = inr unwritten_verdict_holds;
  is_unread_ledger = inr unread_ledger_holds;
}
