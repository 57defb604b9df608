use Rattle.std.proofs.Common.{inl}
use Rattle.headline_laws.proofs.Listing.{other_group_refused_holds, two_lines_hold}
use Rattle.headline_laws.proofs.worked.lists_and_groups.Goals as goal

pub returns : goal.returns
returns c = record { is_two_lines_listed = inl two_lines_hold; is_other_group_refused = inl other_group_refused_holds }
