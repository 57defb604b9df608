use Rattle.run_laws.proofs.Sides.{paired_right, merged_right, merged_back_right}
use Rattle.run_laws.proofs.worked.two_sides.Goals as goal

pub returns : goal.returns
returns c = record {
  is_paired = paired_right;
  is_merged = merged_right;
  is_merged_back = merged_back_right;
}
