use Rattle.tree_laws.proofs.Given.{called_given}
use Rattle.tree_laws.proofs.laws.shelf_is_given.Goals as goal

pub returns : goal.returns
returns g c a b Cs e k x m = called_given e k x m
