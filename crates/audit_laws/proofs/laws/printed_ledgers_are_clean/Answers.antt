use Rattle.audit_laws.proofs.Cleanness.{ledgers_clean}
use Rattle.audit_laws.proofs.Printing.{ledgers_printed}
use Rattle.audit_laws.proofs.laws.printed_ledgers_are_clean.Goals as goal

pub returns : goal.returns
returns c = record {
  clean = ledgers_clean;
  printed = ledgers_printed;
}
