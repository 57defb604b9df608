use Rattle.std.proofs.Common.{inl}
use Rattle.headline_laws.proofs.Teeing.{branches_turned_hold, two_branches_hold}
use Rattle.headline_laws.proofs.worked.branches.Goals as goal

pub returns : goal.returns
returns c = record { is_two_branches = inl two_branches_hold; is_branches_turned = inl branches_turned_hold }
