use Rattle.run_laws.proofs.Refusing.{stopped_one_begins_refused, begins_behind_a_fault_refused, begins_behind_a_failed_write_refused, begins_in_silence_refused}
use Rattle.run_laws.proofs.refused.begun_too_late.Goals as goal

pub returns : goal.returns
returns c = record {
  is_stopped_one_begins = stopped_one_begins_refused;
  is_begins_behind_a_fault = begins_behind_a_fault_refused;
  is_begins_behind_a_failed_write = begins_behind_a_failed_write_refused;
  is_begins_in_silence = begins_in_silence_refused;
}
