use Rattle.std.proofs.Common.{refl}
use Rattle.headline_laws.specs.Refused.{call_with_final_before_close, call_with_row_without_a_final, event_of_no_stream, lease_of_no_stream, row_of_no_plan}
use Rattle.headline_laws.proofs.Asked.{refuses_cat}
use Rattle.headline_laws.proofs.Refusing.{row_of_no_plan_refused, event_of_no_stream_refused, lease_of_no_stream_refused, row_without_a_final_refused, final_before_close_refused}
use Rattle.headline_laws.proofs.refused.wrong_ledgers.Goals as goal

pub returns : goal.returns
returns c = record { is_row_of_no_plan = refuses_cat row_of_no_plan refl row_of_no_plan_refused; is_event_of_no_stream = refuses_cat event_of_no_stream refl event_of_no_stream_refused; is_lease_of_no_stream = refuses_cat lease_of_no_stream refl lease_of_no_stream_refused; is_row_without_a_final = refuses_cat call_with_row_without_a_final refl row_without_a_final_refused; is_final_before_close = refuses_cat call_with_final_before_close refl final_before_close_refused }
