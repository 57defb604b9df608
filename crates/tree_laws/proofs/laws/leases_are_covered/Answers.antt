use Rattle.tree_laws.proofs.Cancels.{cancels_leaseless}
use Rattle.tree_laws.proofs.Covered.{lent_covered}
use Rattle.tree_laws.proofs.Ends.{own_leases_covered}
use Rattle.tree_laws.proofs.Kept.{leases_lent, lent_own, lent_stays}
use Rattle.tree_laws.proofs.laws.leases_are_covered.Goals as goal

pub returns : goal.returns
returns g c = record {
  lent = λ a b d s j T Cs o h. lent_stays h (leases_lent o);
  covered = λ v L j T l legal is. lent_covered v L j T l legal is;
  rows = λ v j T l r m. lent_own v j T l r m;
  own = λ a b Cs u L start calls end lent. own_leases_covered u L start calls end lent;
  cancels = λ a b j T x o. cancels_leaseless o;
}
