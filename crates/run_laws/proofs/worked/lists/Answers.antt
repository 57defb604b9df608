use Rattle.run_laws.proofs.Lists.{bad_line_right, one_too_many_right, two_listed_right}
use Rattle.run_laws.proofs.worked.lists.Goals as goal

pub returns : goal.returns
returns c = record {
  is_two_listed = two_listed_right;
  is_bad_line = bad_line_right;
  is_one_too_many = one_too_many_right;
}
