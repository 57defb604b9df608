use Rattle.std.proofs.Common.{[], ◌∷◌, inr}
use Rattle.chunk_core.specs.Lists.IsAmong.{here}
use Rattle.tree_scripts.proofs.ThreeRows.{three_alone, three_open, three_unleased}
use Rattle.worked_trees.proofs.scripts.ledger_of_a_lease.Goals as goal

pub lease_and_close-requires-clause-alone : goal.lease_and_close-requires-clause-alone
lease_and_close-requires-clause-alone g c = three_alone c.requires.three.3

pub lease_and_close-requires-clause-scope : goal.lease_and_close-requires-clause-scope
lease_and_close-requires-clause-scope g c = three_open c.requires.three.3 1 (inr (0, here ((2, 1) ∷ [])))

pub lease_and_close-requires-clause-stream : goal.lease_and_close-requires-clause-stream
lease_and_close-requires-clause-stream g c = three_unleased c.requires.three.3 5
