use Rattle.std.proofs.Common.{refl}
use Rattle.ledger_laws.specs.Broken.{siblings_in_order_of_acquisition, parent_before_child, uncovered_row_waits, leased_rows_in_order_of_acquisition, event_between_close_and_finals, final_with_another_exit_than_its_close, final_with_another_exit_than_its_cancel, finals_with_two_exits}
use Rattle.ledger_laws.proofs.Right.{only_disordered}
use Rattle.ledger_laws.proofs.broken.disordered_ledgers.Goals as goal

pub returns : goal.returns
returns c = record {
  is_siblings_in_order_of_acquisition = only_disordered siblings_in_order_of_acquisition refl refl refl;
  is_parent_before_child = only_disordered parent_before_child refl refl refl;
  is_uncovered_row_waits = only_disordered uncovered_row_waits refl refl refl;
  is_leased_rows_in_order_of_acquisition = only_disordered leased_rows_in_order_of_acquisition refl refl refl;
  is_event_between_close_and_finals = only_disordered event_between_close_and_finals refl refl refl;
  is_final_with_another_exit_than_its_close = only_disordered final_with_another_exit_than_its_close refl refl refl;
  is_final_with_another_exit_than_its_cancel = only_disordered final_with_another_exit_than_its_cancel refl refl refl;
  is_finals_with_two_exits = only_disordered finals_with_two_exits refl refl refl;
}
