use Rattle.run_laws.proofs.Refusing.{third_pair_refused, crossed_pairs_refused, side_left_open_refused}
use Rattle.run_laws.proofs.refused.wrong_sides.Goals as goal

pub returns : goal.returns
returns c = record {
  is_third_pair = third_pair_refused;
  is_crossed_pairs = crossed_pairs_refused;
  is_side_left_open = side_left_open_refused;
}
