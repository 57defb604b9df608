use Rattle.std.proofs.Common.{inl, refl}
use Rattle.tree_scripts.proofs.ThreeRows.{three_open}
use Rattle.scope_tree.proofs.Use.{closed_now}
use Rattle.worked_trees.proofs.scripts.closes_the_root_of_a_plain_seat.Goals as goal

pub close-requires-clause-scope : goal.close-requires-clause-scope
close-requires-clause-scope g c = three_open c.in_ok-tree.ensures.three.3 0 (inl refl)

pub end-shelf-requires-clause-closed : goal.end-shelf-requires-clause-closed
end-shelf-requires-clause-closed g c = closed_now c.close.ensures.closes
