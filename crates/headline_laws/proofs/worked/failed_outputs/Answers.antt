use Rattle.std.proofs.Common.{inl}
use Rattle.headline_laws.proofs.Holding.{failed_write_holds}
use Rattle.headline_laws.proofs.worked.failed_outputs.Goals as goal

pub returns : goal.returns
returns c = inl failed_write_holds
