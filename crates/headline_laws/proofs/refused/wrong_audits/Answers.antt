use Rattle.headline_laws.proofs.Auditing.{audit_of_nothing_refused, audit_of_the_depot_refused, clean_called_unended_refused, ledger_not_reported_refused, other_rule_named_refused, refused_though_spelled_refused, unended_called_clean_refused, unended_with_status_0_refused, unread_though_read_refused}
use Rattle.headline_laws.proofs.refused.wrong_audits.Goals as goal

pub returns : goal.returns
returns c = record {
  is_unended_called_clean = unended_called_clean_refused;
  is_unended_with_status_0 = unended_with_status_0_refused;
  is_clean_called_unended = clean_called_unended_refused;
  is_other_rule_named = other_rule_named_refused;
  is_ledger_not_reported = ledger_not_reported_refused;
  is_refused_though_spelled = refused_though_spelled_refused;
  is_audit_of_the_depot = audit_of_the_depot_refused;
  is_audit_of_nothing = audit_of_nothing_refused;
  is_unread_though_read = unread_though_read_refused;
}
