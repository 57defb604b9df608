use Rattle.run_laws.proofs.Tested.{ahead_so, within_so, leases_so, waits_so, begins_so, paced_so}
use Rattle.run_laws.proofs.exact.tests_of_pace.Goals as goal

pub returns : goal.returns
returns c = record {
  of_ahead = ahead_so;
  of_within = within_so;
  of_leases = leases_so;
  of_waits = waits_so;
  of_begins = begins_so;
  of_pace = paced_so;
}
