use Rattle.run_laws.proofs.Refusing.{second_device_refused, other_bytes_stored_refused}
use Rattle.run_laws.proofs.refused.wrong_stores.Goals as goal

pub returns : goal.returns
returns c = record {
  is_second_device = second_device_refused;
  is_other_bytes_stored = other_bytes_stored_refused;
}
