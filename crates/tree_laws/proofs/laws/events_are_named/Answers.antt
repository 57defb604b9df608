use Rattle.tree_laws.proofs.Names.{events_floored, events_named}
use Rattle.tree_laws.proofs.laws.events_are_named.Goals as goal

pub returns : goal.returns
returns g c = record {
  named = λ a b Cs e o h. events_named e o h;
  floored = λ a b Cs e h. events_floored e h;
}
