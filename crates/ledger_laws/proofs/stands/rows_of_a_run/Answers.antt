use Rattle.std.proofs.Common.{refl, take}
use Rattle.res_ledger.specs.Standing.Standing.{Open, Awaiting, Handed, Finalized}
use Rattle.ledger_laws.specs.Worked.{row_kept_by_a_lease}
use Rattle.ledger_laws.proofs.Stood.{stood}
use Rattle.ledger_laws.proofs.stands.rows_of_a_run.Goals as goal

pub returns : goal.returns
returns c = record {
  kept = (stood (take 2 row_kept_by_a_lease) 0 Open refl refl refl, stood (take 3 row_kept_by_a_lease) 0 Awaiting refl refl refl, stood (take 7 row_kept_by_a_lease) 0 Handed refl refl refl, stood row_kept_by_a_lease 0 Finalized refl refl refl);
  own = (stood (take 4 row_kept_by_a_lease) 1 Open refl refl refl, stood (take 5 row_kept_by_a_lease) 1 Handed refl refl refl, stood (take 6 row_kept_by_a_lease) 1 Finalized refl refl refl);
}
