use Rattle.std.proofs.Common.{refl}
use Rattle.headline_laws.specs.Refused.{closed_twice, kept_device, left_open}
use Rattle.headline_laws.proofs.Asked.{refuses_cat}
use Rattle.headline_laws.proofs.Refusing.{kept_device_refused, closed_twice_refused, left_open_refused}
use Rattle.headline_laws.proofs.refused.wrong_devices.Goals as goal

pub returns : goal.returns
returns c = record { is_kept_device = refuses_cat kept_device refl kept_device_refused; is_closed_twice = refuses_cat closed_twice refl closed_twice_refused; is_left_open = refuses_cat left_open refl left_open_refused }
