use Rattle.run_laws.proofs.Groups.{grouped_right, pair_right}
use Rattle.run_laws.proofs.worked.groups.Goals as goal

pub returns : goal.returns
returns c = record {
  is_grouped = grouped_right;
  is_pair = pair_right;
}
