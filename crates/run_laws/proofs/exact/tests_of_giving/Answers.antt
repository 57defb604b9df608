use Rattle.run_laws.proofs.GivingTested.{all_given_so, given_by_so, lends_so, order_so, turns_so}
use Rattle.run_laws.proofs.exact.tests_of_giving.Goals as goal

pub returns : goal.returns
returns c = record {
  of_order = order_so;
  of_all = all_given_so;
  of_lent = lends_so;
  of_given = given_by_so;
  of_turns = turns_so;
}
