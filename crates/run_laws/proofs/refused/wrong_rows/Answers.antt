use Rattle.run_laws.proofs.Refusing.{first_table_first_refused, leased_table_ended_refused, stolen_row_refused, invented_scope_refused, lease_by_a_stream_refused, left_before_closing_refused}
use Rattle.run_laws.proofs.refused.wrong_rows.Goals as goal

pub returns : goal.returns
returns c = record {
  is_first_table_first = first_table_first_refused;
  is_leased_table_ended = leased_table_ended_refused;
  is_stolen_row = stolen_row_refused;
  is_invented_scope = invented_scope_refused;
  is_lease_by_a_stream = lease_by_a_stream_refused;
  is_left_before_closing = left_before_closing_refused;
}
