use Rattle.std.proofs.Common.{◌≡◌, vec_len}
use Rattle.worked_trees.proofs.tables.tables_at.Given as goal

abbrev pub invariant-loop-path : goal.invariant-loop-path
invariant-loop-path l = vec_len l.tables ≡ l.path-index
