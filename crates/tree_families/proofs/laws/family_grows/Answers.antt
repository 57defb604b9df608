use Rattle.row_seat.proofs.Splits.{above_each}
use Rattle.tree_families.proofs.Families.{family_calls, family_joins, family_splits, family_starts}
use Rattle.tree_families.proofs.laws.family_grows.Goals as goal

pub returns : goal.returns
returns g c = record {
  starts = family_starts;
  calls = family_calls;
  splits = family_splits;
  joins = family_joins;
  floors = λ v j e m. above_each v.events e m;
}
