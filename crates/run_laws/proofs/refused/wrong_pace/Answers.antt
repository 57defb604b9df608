use Rattle.run_laws.proofs.Refusing.{without_lease_refused, two_open_refused}
use Rattle.run_laws.proofs.refused.wrong_pace.Goals as goal

pub returns : goal.returns
returns c = record {
  is_without_lease = without_lease_refused;
  is_two_open = two_open_refused;
}
