use Rattle.std.proofs.Common.{inl, refl}
use Rattle.tree_scripts.proofs.ThreeRows.{three_alone, three_has, three_open}
use Rattle.worked_trees.proofs.scripts.ends_a_row_as_it_was_written.Goals as goal

pub write_and_end-shelf-requires-clause-alone : goal.write_and_end-shelf-requires-clause-alone
write_and_end-shelf-requires-clause-alone g c = three_alone c.in_ok-tree.ensures.three.3

pub write_and_end-shelf-requires-clause-row : goal.write_and_end-shelf-requires-clause-row
write_and_end-shelf-requires-clause-row g c = three_has c.in_ok-tree.ensures.three.3

pub write_and_end-shelf-requires-clause-root : goal.write_and_end-shelf-requires-clause-root
write_and_end-shelf-requires-clause-root g c = three_open c.in_ok-tree.ensures.three.3 0 (inl refl)
