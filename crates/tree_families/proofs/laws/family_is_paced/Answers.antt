use Rattle.std.proofs.Common.{not, ap}
use Rattle.tree_families.proofs.Pacing.{family_ahead, family_begins, family_room, family_within}
use Rattle.tree_families.proofs.laws.family_is_paced.Goals as goal

pub returns : goal.returns
returns g c = record {
  ahead = family_ahead;
  within = λ b ms L width n f outer out ledger paced. family_within b ms L width f outer out ledger paced n;
  begins = family_begins;
  room = λ b ms L width f outer out ledger paced R S e k i is by l h. family_room b ms L width f outer out ledger paced R S e k i is by l (ap not h);
}
