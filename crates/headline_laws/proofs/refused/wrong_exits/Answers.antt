use Rattle.std.proofs.Common.{refl}
use Rattle.headline_laws.specs.Refused.{device_told_otherwise, done_told_as_errored, fault_told_as_succeeded, final_unlike_its_close, halt_told_as_succeeded}
use Rattle.headline_laws.proofs.Asked.{refuses_cat}
use Rattle.headline_laws.proofs.Refusing.{done_told_as_errored_refused, fault_told_as_succeeded_refused, halt_told_as_succeeded_refused, final_unlike_its_close_refused, device_told_otherwise_refused}
use Rattle.headline_laws.proofs.refused.wrong_exits.Goals as goal

pub returns : goal.returns
returns c = record {
  is_done_told_as_errored = refuses_cat done_told_as_errored refl done_told_as_errored_refused;
  is_fault_told_as_succeeded = refuses_cat fault_told_as_succeeded refl fault_told_as_succeeded_refused;
  is_halt_told_as_succeeded = refuses_cat halt_told_as_succeeded refl halt_told_as_succeeded_refused;
  is_final_unlike_its_close = refuses_cat final_unlike_its_close refl final_unlike_its_close_refused;
  is_device_told_otherwise = refuses_cat device_told_otherwise refl device_told_otherwise_refused;
}
