use Rattle.std.proofs.Common.{inl}
use Rattle.headline_laws.proofs.Holding.{missing_file_holds, read_fault_holds, failed_close_holds}
use Rattle.headline_laws.proofs.worked.failed_devices.Goals as goal

pub returns : goal.returns
returns c = record { is_missing_file = inl missing_file_holds; is_read_fault = inl read_fault_holds; is_failed_close = inl failed_close_holds }
