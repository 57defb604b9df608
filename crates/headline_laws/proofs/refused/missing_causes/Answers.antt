use Rattle.std.proofs.Common.{refl, None}
use Rattle.headline_laws.specs.Refused.{end_never_met, failed_close_not_told, failed_read_forgotten, failure_not_told, fault_without_a_fault, halted_without_a_cause, silent_call}
use Rattle.headline_laws.specs.Surplus.{failed_read_told_as_memory}
use Rattle.headline_laws.proofs.Asked.{refuses, refuses_cat}
use Rattle.headline_laws.proofs.Refusing.{end_never_met_refused, failed_read_forgotten_refused, failure_not_told_refused, halted_without_a_cause_refused, fault_without_a_fault_refused, failed_close_not_told_refused, silent_call_refused}
use Rattle.headline_laws.proofs.Untold.{failed_read_told_as_memory_refused}
use Rattle.headline_laws.proofs.refused.missing_causes.Goals as goal

pub returns : goal.returns
returns c = record { is_failure_not_told = refuses_cat failure_not_told refl failure_not_told_refused; is_halted_without_a_cause = refuses_cat halted_without_a_cause refl halted_without_a_cause_refused; is_fault_without_a_fault = refuses_cat fault_without_a_fault refl fault_without_a_fault_refused; is_failed_read_forgotten = refuses_cat failed_read_forgotten refl failed_read_forgotten_refused; is_end_never_met = refuses_cat end_never_met refl end_never_met_refused; is_failed_read_told_as_memory = refuses_cat failed_read_told_as_memory refl failed_read_told_as_memory_refused; is_failed_close_not_told = refuses_cat failed_close_not_told refl failed_close_not_told_refused; is_silent_call = refuses silent_call None refl refl silent_call_refused }
