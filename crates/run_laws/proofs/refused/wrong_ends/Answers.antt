use Rattle.run_laws.proofs.Refusing.{halted_by_a_later_one_refused, stopped_by_nothing_refused, fault_of_no_device_refused, root_never_closed_refused, tables_never_acquired_refused, next_table_tried_refused, nobody_given_refused}
use Rattle.run_laws.proofs.refused.wrong_ends.Goals as goal

pub returns : goal.returns
returns c = record {
  is_halted_by_a_later_one = halted_by_a_later_one_refused;
  is_stopped_by_nothing = stopped_by_nothing_refused;
  is_fault_of_no_device = fault_of_no_device_refused;
  is_root_never_closed = root_never_closed_refused;
  is_tables_never_acquired = tables_never_acquired_refused;
  is_next_table_tried = next_table_tried_refused;
  is_nobody_given = nobody_given_refused;
}
