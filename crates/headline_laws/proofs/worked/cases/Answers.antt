use Rattle.std.proofs.Common.{inl}
use Rattle.headline_laws.proofs.Cases.{case_not_made_holds}
use Rattle.headline_laws.proofs.worked.cases.Goals as goal

pub returns : goal.returns
returns c = inl case_not_made_holds
