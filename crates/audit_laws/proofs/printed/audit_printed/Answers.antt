use Rattle.audit_laws.proofs.Judging.{judged_clean}
use Rattle.audit_laws.proofs.printed.audit_printed.Goals as goal

pub returns-clause-clean : goal.returns-clause-clean
returns-clause-clean c = judged_clean c.reading_is_one.ensures.ledger c.verdict_is_one.ensures.one c.printed_ledgers_are_clean.ensures.clean c.args.printed.now _ c.in-Ok.verdict c.requires c.in_ok-ledger.ensures.ok.0 c.in_ok-ledger.ensures.ok.1 c.in-Ok.ensures
