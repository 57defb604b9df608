use Rattle.std.proofs.Common.{◌≡◌, drop}
use Rattle.scope_tree.specs.Kept.{acquisition_pairs}
use Rattle.scope_tree.specs.Standings.{found}
use Rattle.scope_tree.proofs.rows.scope_of.Given as goal

abbrev pub invariant-each : goal.invariant-each
invariant-each l = found l.row (acquisition_pairs (drop l.one-index l.acquisitions)) ≡ found l.row (acquisition_pairs l.acquisitions)
