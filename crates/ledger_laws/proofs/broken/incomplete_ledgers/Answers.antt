use Rattle.std.proofs.Common.{refl}
use Rattle.ledger_laws.specs.Broken.{row_without_a_final, lease_without_a_cancel, scope_left_open, root_left_open}
use Rattle.ledger_laws.proofs.Right.{only_incomplete}
use Rattle.ledger_laws.proofs.broken.incomplete_ledgers.Goals as goal

pub returns : goal.returns
returns c = record {
  is_row_without_a_final = only_incomplete row_without_a_final refl refl;
  is_lease_without_a_cancel = only_incomplete lease_without_a_cancel refl refl;
  is_scope_left_open = only_incomplete scope_left_open refl refl;
  is_root_left_open = only_incomplete root_left_open refl refl;
}
