use Rattle.tree_laws.proofs.Refused.{first_row_first_refused, lease_left_over_refused, lease_left_over_whole, row_left_over_refused}
use Rattle.tree_laws.proofs.laws.refused.Goals as goal

pub returns : goal.returns
returns c = record {
  is_first_row_first = first_row_first_refused;
  is_row_left_over = row_left_over_refused;
  is_lease_left_over = lease_left_over_refused;
  is_whole_for_the_leased = lease_left_over_whole;
}
