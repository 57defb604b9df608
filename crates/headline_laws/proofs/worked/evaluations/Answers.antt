use Rattle.std.proofs.Common.{inl}
use Rattle.headline_laws.proofs.Answering.{two_groups_hold}
use Rattle.headline_laws.proofs.worked.evaluations.Goals as goal

pub returns : goal.returns
returns c = inl two_groups_hold
