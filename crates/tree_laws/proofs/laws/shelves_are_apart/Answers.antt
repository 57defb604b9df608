use Rattle.tree_laws.proofs.Shelved.{shelves_apart}
use Rattle.tree_laws.proofs.laws.shelves_are_apart.Goals as goal

pub returns : goal.returns
returns g c = λ a b k d Cs Ds u L sa ea ka fa sc ec kc fc ne r m. shelves_apart u L sa ea ka fa sc ec kc fc ne r m
