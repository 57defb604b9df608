use Rattle.std.proofs.Common.{◌≡◌, drop}
use Rattle.scope_tree.specs.Released.{said}
use Rattle.scope_tree.specs.Standings.{found}
use Rattle.scope_tree.proofs.rows.outcome.Given as goal

abbrev pub invariant-each : goal.invariant-each
invariant-each g l = found l.row (said (drop l.spent-index l.shelf)) ≡ found l.row (said l.shelf)
