use Rattle.std.proofs.Common.{refl}
use Rattle.ledger_laws.specs.Worked.{one_row, failed_finalizer, nothing_acquired, row_kept_by_a_lease, reader_is_stopped, two_rows, rows_of_a_leased_stream, child_closed_first, stream_never_started, lease_on_the_middle, lease_on_the_root, three_scopes_at_once}
use Rattle.ledger_laws.proofs.Right.{right}
use Rattle.ledger_laws.proofs.worked.right_ledgers.Goals as goal

pub returns : goal.returns
returns c = record {
  is_one_row = right one_row refl refl refl;
  is_failed_finalizer = right failed_finalizer refl refl refl;
  is_nothing_acquired = right nothing_acquired refl refl refl;
  is_row_kept_by_a_lease = right row_kept_by_a_lease refl refl refl;
  is_reader_is_stopped = right reader_is_stopped refl refl refl;
  is_two_rows = right two_rows refl refl refl;
  is_rows_of_a_leased_stream = right rows_of_a_leased_stream refl refl refl;
  is_child_closed_first = right child_closed_first refl refl refl;
  is_stream_never_started = right stream_never_started refl refl refl;
  is_lease_on_the_middle = right lease_on_the_middle refl refl refl;
  is_lease_on_the_root = right lease_on_the_root refl refl refl;
  is_three_scopes_at_once = right three_scopes_at_once refl refl refl;
}
